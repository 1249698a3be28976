-- Stretches of events.
use Rattle.std.proofs.Common.{◌≡◌, ◌∙◌, ℕ, List, ap, slice_range, sym}
use mathlib.Core.List.{map-map}
use Rattle.tocmark_event.specs.Reading.{ReadingView, reading_view}
use Rattle.tocmark_event.specs.Text.{ParserEvent, text_of}
use Rattle.tocmark_event.specs.View.{EventView, event_view}
use Rattle.tocmark_event.specs.declared.reader.Reading.{Reading}
use Rattle.tocmark_compare.specs.Given.{found_events, given_events}
use Rattle.tocmark_compare.proofs.Found.{found-given}
use Rattle.tocmark_rewrite.specs.Trees.{ranges_of}
use Rattle.tocmark_rewrite.proofs.Slices.{slice-map}

pub events-between : (es : List (ParserEvent × (ℕ × ℕ))) (a b : ℕ) → slice_range (given_events es) a b ≡ given_events (slice_range es a b)
events-between es a b = slice-map (λ (e : ParserEvent × (ℕ × ℕ)). event_view text_of e.0) es a b

-- the events that a reader found, and their ranges, are those of its reading
pub found-alike : (r : Reading) (v : ReadingView) (es : List (ParserEvent × (ℕ × ℕ))) → reading_view r ≡ v → es ≡ r.events.items → given_events es ≡ found_events v
found-alike r v es read same = ap given_events same ∙ sym (found-given r) ∙ ap found_events read

pub ranges-alike : (r : Reading) (v : ReadingView) (es : List (ParserEvent × (ℕ × ℕ))) → reading_view r ≡ v → es ≡ r.events.items → ranges_of es ≡ ranges_of v.events
ranges-alike r v es read same =
    ap ranges_of same
    ∙ sym (map-map (λ (e : EventView × (ℕ × ℕ)). e.1) (λ (e : ParserEvent × (ℕ × ℕ)). (let p : EventView × (ℕ × ℕ) = (event_view text_of e.0, e.1) in p)) r.events.items)
    ∙ ap (λ (w : ReadingView). ranges_of w.events) read
