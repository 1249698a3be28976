use Rattle.std.proofs.Common.{◌∙◌, subst, sym}
use Rattle.std.specs.Prelude.{OnOk}
use Rattle.tocmark_spelling.specs.Page.{written}
use Rattle.tocmark_write_renderer.specs.WriterOf.{Stands, levels_of, page_of}
use Rattle.tocmark_write_blocks.proofs.Texts.{plain_info}
use Rattle.tocmark_write_blocks.proofs.code.write_info.Goals as goal

pub returns-then-not-holds_escaped-clause-stands : goal.returns-then-not-holds_escaped-clause-stands
returns-then-not-holds_escaped-clause-stands c =
    let path = levels_of c.args.renderer.now in
    subst (λ t. OnOk c.write.result (Stands c.write.new.self path (written path t (page_of c.args.renderer.now))))
    (sym (plain_info c.args.info.now (sym c.holds_escaped.ensures ∙ c.if-not-holds_escaped.true))) c.write.ensures.written
