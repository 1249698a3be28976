use Rattle.std.proofs.Common.{ℕ, Some, map, sym, ap, ◌∙◌}
use mathlib.Core.List.{map-map}
use Rattle.std.proofs.lemmas.Result.{IfOk-weaker}
use Rattle.tocmark_event.specs.Text.{text_of}
use Rattle.tocmark_event.specs.View.{EventView, event_view}
use Rattle.tocmark_json.specs.Json.{located_view, ranged_view}
use Rattle.tocmark_json.specs.Printed.{lines_text, located_lines}
use Rattle.tocmark_documents.specs.Interchange.{located_in}
use Rattle.tocmark_documents.proofs.lines.part_lines.Goals as goal

pub returns-in-None : goal.returns-in-None
returns-in-None c = rw c.in-None.is (
    IfOk-weaker c.ranged_to_lines.result _ _
    (λ text h. h ∙ ap lines_text (ap (map (ranged_view text_of)) c.deref.ensures.value ∙ sym (map-map (λ (e : EventView × (ℕ × ℕ)). (e.0, Some e.1)) (λ e. (event_view text_of e.0, e.1)) c.args.part.now.events.items)))
    c.ranged_to_lines.ensures)

pub returns-in-Some : goal.returns-in-Some
returns-in-Some c = rw c.in-Some.is (
    let text = c.in-Some.places.bytes.now in
    IfOk-weaker c.indexed_to_lines.result _ _
    (λ lines h. h ∙ ap located_lines (ap (map (located_view text_of text)) c.deref-in-Some.ensures.value ∙ sym (map-map (located_in text) (λ e. (event_view text_of e.0, e.1)) c.args.part.now.events.items)))
    c.indexed_to_lines.ensures)
