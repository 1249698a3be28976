-- The events of a reading, as they are lent and as they are read.
use Rattle.std.proofs.Common.{◌≡◌, ℕ}
use mathlib.Core.List.{map-map}
use Rattle.tocmark_event.specs.Reading.{reading_view}
use Rattle.tocmark_event.specs.Text.{text_of}
use Rattle.tocmark_event.specs.View.{EventView, event_view}
use Rattle.tocmark_event.specs.declared.reader.Reading.{Reading}
use Rattle.tocmark_compare.specs.Given.{found_events, given_events}

pub found-given : (r : Reading) → found_events (reading_view r) ≡ given_events r.events.items
found-given r = map-map (λ (e : EventView × (ℕ × ℕ)). e.0) (λ e. (event_view text_of e.0, e.1)) r.events.items
