use Rattle.std.proofs.Common.{replicate}
use Rattle.tocmark_write_renderer.specs.WriterOf.{levels_of, page_of}
use Rattle.tocmark_write_texts.specs.Characters.{backtick}
use Rattle.tocmark_write_renderer.proofs.Laid.{part-written}
use Rattle.tocmark_write_inlines.proofs.inline_leaf.write_closing.Goals as goal

pub returns-clause-stands : goal.returns-clause-stands
returns-clause-stands c =
    let here = c.args.renderer.now in
    part-written c.write_ticks.result c.write_some.new.renderer c.write_ticks.new.renderer (levels_of here) (page_of here)
    c.args.ends.padding.now (replicate c.args.ends.ticks backtick) c.in_ok-write_some.ensures.stands c.write_ticks.ensures.stands
