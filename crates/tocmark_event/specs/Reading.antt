-- What a reader finds, as plain values.
use Rattle.std.specs.Prelude.{ℕ, List, Option, Some, map, string_bytes}
use Rattle.std.specs.Borrow.{Bor}
use Rattle.std.specs.Slice.Iter.{iter_rest}
use Rattle.tocmark_event.specs.Text.{ParserEvent, text_of}
use Rattle.tocmark_event.specs.View.{EventView, event_view}
use Rattle.tocmark_event.specs.declared.reader.Events.{Events}
use Rattle.tocmark_event.specs.declared.reader.Pairs.{Pairs}
use Rattle.tocmark_event.specs.declared.reader.Reading.{Reading}

-- the events with their ranges, the labels that are defined, the labels that were looked up in vain
pub record ReadingView : Type 0 where
  pub events : List (EventView × (ℕ × ℕ))
  pub defined : List (List ℕ)
  pub unresolved : List (List ℕ)

-- what a reader found, as a plain value: each text is its bytes
abbrev pub reading_view : Reading → ReadingView
reading_view r = record {
  events = map (λ e. (event_view text_of e.0, e.1)) r.events.items;
  defined = map string_bytes r.defined.items;
  unresolved = map string_bytes r.unresolved.items;
}

-- an event that is lent
abbrev pub lent_event : Bor ParserEvent → EventView
lent_event e = event_view text_of e.now

-- the events that are still to come
abbrev pub events_left : Events → List EventView
events_left s = map (λ e. event_view text_of e.0) (iter_rest s.0)

-- an event that is lent, with its range if it has one
abbrev pub lent_pair : Bor ParserEvent × Option (ℕ × ℕ) → EventView × Option (ℕ × ℕ)
lent_pair e = (event_view text_of e.0.now, e.1)

-- the events that are still to come, each with its range
abbrev pub pairs_left : Pairs → List (EventView × Option (ℕ × ℕ))
pairs_left s = map (λ e. (event_view text_of e.0, Some e.1)) (iter_rest s.0)
