use Rattle.std.proofs.Common.{◌∙◌, subst, sym}
use Rattle.std.proofs.lemmas.Bool.{true≢false}
use Rattle.std.specs.Prelude.{OnOk}
use Rattle.tocmark_spelling.specs.Page.{Site}
use Rattle.tocmark_write_containers.specs.FrameOf.{level_of}
use Rattle.tocmark_write_renderer.specs.WriterOf.{Stands, levels_of, page_of}
use Rattle.tocmark_write_inlines.proofs.links.close_named.Goals as goal

pub returns-in-Some-clause-stands : goal.returns-in-Some-clause-stands
returns-in-Some-clause-stands c = λ o.
    let old = c.args.renderer.now in
    let P : Site → Type 0 = λ here. OnOk c.close_by_type.result (Stands c.close_by_type.new.renderer here.path here.page) in
    subst P (sym (c.in-Some.ensures.target o (level_of c.args.frame.now) (levels_of old) (page_of old))) c.close_by_type.ensures.stands

pub returns-in-None-clause-stands : goal.returns-in-None-clause-stands
returns-in-None-clause-stands c = absurd (true≢false (sym (c.target_of.ensures.other c.in-None.is) ∙ c.requires.named))
