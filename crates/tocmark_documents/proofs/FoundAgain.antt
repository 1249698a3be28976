-- The events of pairs, as values of both forms.
use Rattle.std.proofs.Common.{◌≡◌, ℕ, List, Option, map, sym, ap, ◌∙◌}
use mathlib.Core.List.{map-map}
use Rattle.tocmark_event.specs.Reading.{ReadingView, reading_view}
use Rattle.tocmark_event.specs.Text.{ParserEvent, text_of}
use Rattle.tocmark_event.specs.View.{EventView, event_view}
use Rattle.tocmark_event.specs.declared.event.flags.ParserOptions.{ParserOptions}
use Rattle.tocmark_event.specs.declared.reader.Reading.{Reading}
use Rattle.tocmark_marked.specs.Marked.{marked_reading}
use Rattle.tocmark_json.specs.Json.{pair_view}
use Rattle.tocmark_compare.specs.Given.{given_events}
use Rattle.tocmark_documents.specs.Document.{events_read, without_range}

-- the events of a reading are those that are read
pub found_read : (r : Reading) (flags : ParserOptions) (text : List ℕ) → reading_view r ≡ marked_reading flags text → given_events r.events.items ≡ events_read flags text
found_read r flags text is =
    sym (map-map (λ (e : EventView × (ℕ × ℕ)). e.0) (λ e. (event_view text_of e.0, e.1)) r.events.items)
    ∙ ap (λ (v : ReadingView). map (λ e. e.0) v.events) is

-- the events of pairs stay where the pairs are taken for values
pub given_read : (ps : List (ParserEvent × Option (ℕ × ℕ))) → given_events ps ≡ without_range (map (pair_view text_of) ps)
given_read ps = sym (map-map (λ (p : EventView × Option (ℕ × ℕ)). p.0) (pair_view text_of) ps)
