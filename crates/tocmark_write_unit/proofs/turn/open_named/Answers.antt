use Rattle.std.proofs.Common.{ap, subst, string_bytes, Option}
use Rattle.tocmark_event.specs.View.{tag_view}
use Rattle.tocmark_spelling.specs.Page.{Site}
use Rattle.tocmark_write_renderer.specs.WriterOf.{levels_of, page_of, Arrives}
use Rattle.std.specs.Prelude.{OnOk}
use Rattle.tocmark_write_unit.proofs.Told.{image-row, link-row}
use Rattle.tocmark_write_unit.proofs.turn.open_named.Goals as goal

pub returns-in-Link-clause-stands : goal.returns-in-Link-clause-stands
returns-in-Link-clause-stands c =
    let P : Option Site → Type 0 = λ o. OnOk c.open_link.result (Arrives c.open_link.new.renderer o) in
    λ s m l named. subst P (link-row s m (tag_view string_bytes c.args.tag.now) _ _ _ _ l (levels_of c.args.renderer.now) (page_of c.args.renderer.now) (ap (tag_view string_bytes) c.in-Link.is)) (c.open_link.ensures.stands l named)

pub returns-in-Image-clause-stands : goal.returns-in-Image-clause-stands
returns-in-Image-clause-stands c =
    let P : Option Site → Type 0 = λ o. OnOk c.open_image.result (Arrives c.open_image.new.renderer o) in
    λ s m l named. subst P (image-row s m (tag_view string_bytes c.args.tag.now) _ _ _ _ l (levels_of c.args.renderer.now) (page_of c.args.renderer.now) (ap (tag_view string_bytes) c.in-Image.is)) (c.open_image.ensures.stands l named)
