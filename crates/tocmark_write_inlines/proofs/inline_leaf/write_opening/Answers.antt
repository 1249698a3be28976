use Rattle.std.proofs.Common.{replicate}
use Rattle.tocmark_write_renderer.specs.WriterOf.{levels_of, page_of}
use Rattle.tocmark_write_texts.specs.Characters.{backtick}
use Rattle.tocmark_write_renderer.proofs.Laid.{part-written}
use Rattle.tocmark_write_inlines.proofs.inline_leaf.write_opening.Goals as goal

pub returns-clause-stands : goal.returns-clause-stands
returns-clause-stands c =
    let here = c.args.renderer.now in
    part-written c.write_some.result c.write_ticks.new.renderer c.write_some.new.renderer (levels_of here) (page_of here)
    (replicate c.args.ends.ticks backtick) c.args.ends.padding.now c.in_ok-write_ticks.ensures.stands c.write_some.ensures.stands
