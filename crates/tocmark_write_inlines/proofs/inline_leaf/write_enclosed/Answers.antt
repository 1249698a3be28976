use Rattle.std.proofs.Common.{◌++◌, append_assoc, replicate, subst}
use Rattle.std.specs.Prelude.{OnOk}
use Rattle.tocmark_spelling.specs.Page.{written}
use Rattle.tocmark_write_renderer.specs.WriterOf.{Stands, levels_of, page_of}
use Rattle.tocmark_write_texts.specs.Characters.{backtick}
use Rattle.tocmark_write_inlines.proofs.Spans.{parts-written}
use Rattle.tocmark_write_inlines.proofs.inline_leaf.write_enclosed.Goals as goal

pub returns-clause-stands : goal.returns-clause-stands
returns-clause-stands c =
    let here = c.args.renderer.now in
    let text = c.args.text.now in
    let run = replicate c.args.ends.ticks backtick in
    let padding = c.args.ends.padding.now in
    subst (λ t. OnOk c.write_closing.result (Stands c.write_closing.new.renderer (levels_of here) (written (levels_of here) t (page_of here))))
    (append_assoc run padding (text ++ (padding ++ run)))
    (parts-written c.write_closing.result c.write_opening.new.renderer c.write.new.self c.write_closing.new.renderer (levels_of here) (page_of here)
    (run ++ padding) text (padding ++ run) c.in_ok-write_opening.ensures.stands c.in_ok-write.ensures.written c.write_closing.ensures.stands)
