use Rattle.std.proofs.Common.{◌≡◌, length, refl, rules}
use Rattle.tocmark_write_renderer.specs.WriterOf.{levels_of, page_of}
use Rattle.tocmark_write_inlines.proofs.Spans.{nothing-written}
use Rattle.tocmark_write_inlines.proofs.inline_leaf.write_some.Goals as goal

pub returns-then-is_empty-clause-stands : goal.returns-then-is_empty-clause-stands
returns-then-is_empty-clause-stands c =
    let here = c.args.renderer.now in
    let none : length c.args.text.now ≡ 0 = search rules in
    record { path_is = refl; page_is = nothing-written (levels_of here) c.args.text.now (page_of here) none }
