use Rattle.std.proofs.Common.{◌≡◌, ℕ, Some, map, sym, ap, ◌∙◌}
use mathlib.Core.List.{map-map}
use Rattle.serde_json.specs.Written.{compact_text}
use Rattle.tocmark_event.specs.Text.{text_of}
use Rattle.tocmark_event.specs.View.{EventView, event_view}
use Rattle.tocmark_json.specs.Json.{pairs_json, ranged_view}
use Rattle.tocmark_event.specs.Reading.{ReadingView}
use Rattle.tocmark_documents.specs.Interchange.{reading_json}
use Rattle.tocmark_documents.proofs.reading.read_json.Goals as goal

pub returns : goal.returns
returns c =
    let all : pairs_json (map (ranged_view text_of) c.deref.result.now) ≡ reading_json c.args.flags c.args.text.now =
    ap pairs_json (ap (map (ranged_view text_of)) c.deref.ensures.value ∙ sym (map-map (λ (e : EventView × (ℕ × ℕ)). (e.0, Some e.1)) (λ e. (event_view text_of e.0, e.1)) c.in_ok-reading.reading.events.items)) ∙ ap (λ (r : ReadingView). pairs_json (map (λ e. (e.0, Some e.1)) r.events)) c.in_ok-reading.ensures.reading in
    c.in_ok-output.ensures.text ∙ ap compact_text all
