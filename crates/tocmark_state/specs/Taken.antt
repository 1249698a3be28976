-- The events of a reading, as a state takes them.
use Rattle.std.specs.Prelude.{List, Option, Some, map}
use Rattle.std.specs.Borrow.{MutBor}
use Rattle.std.specs.Slice.Iter.{iter_mut_rest}
use Rattle.tocmark_event.specs.Reading.{ReadingView}
use Rattle.tocmark_event.specs.Text.{ParserEvent, text_of}
use Rattle.tocmark_event.specs.View.{EventView, event_view}
use Rattle.tocmark_state.specs.Ranges.{Pair, Range, unranged}
use Rattle.tocmark_state.specs.declared.taken.TakenEvents.{TakenEvents}
use Rattle.tocmark_state.specs.declared.taken.TakenPairs.{TakenPairs}

-- the events of a reading, as pairs without ranges
abbrev pub unranged_reading : ReadingView → List Pair
unranged_reading reading = map (λ e. unranged e.0) reading.events

-- its events, each with its range
abbrev pub ranged_reading : ReadingView → List Pair
ranged_reading reading = map (λ e. (e.0, Some e.1)) reading.events

-- an event that is lent to be emptied
abbrev pub taken_event : MutBor ParserEvent → EventView
taken_event e = event_view text_of e.now

-- such an event with its range
abbrev pub taken_pair : MutBor ParserEvent × Option Range → Pair
taken_pair x = (taken_event x.0, x.1)

-- the events that are still to come
abbrev pub taken_events_left : TakenEvents → List EventView
taken_events_left s = map (λ e. event_view text_of e.0) (iter_mut_rest s.0)

-- those that are still to come, each with its range
abbrev pub taken_pairs_left : TakenPairs → List Pair
taken_pairs_left s = map (λ e. (event_view text_of e.0, Some e.1)) (iter_mut_rest s.0)
