-- The events of a document as plain values.
use Rattle.std.specs.Prelude.{List, map}
use Rattle.tocmark_event.specs.Text.{ParserEvent, text_of}
use Rattle.tocmark_event.specs.View.{EventView, event_view}
use Rattle.tocmark_event.specs.Reading.{ReadingView}

-- the events without what is beside each, as its range
abbrev pub given_events : {X : Type 0} → List (ParserEvent × X) → List EventView
given_events = map (λ e. event_view text_of e.0)

-- the events that a reader found, without their ranges
abbrev pub found_events : ReadingView → List EventView
found_events r = map (λ e. e.0) r.events
