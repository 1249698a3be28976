-- What empty lines in front of a text change of its reading.
use Rattle.std.specs.Prelude.{ℕ, ◌+◌, ◌-◌, ◌^◌, ◌<◌, ◌≡◌, List, ◌++◌, length, map, replicate}
use Rattle.tocmark_event.specs.Reading.{ReadingView}
use Rattle.tocmark_event.specs.View.{EventView}
use Rattle.tocmark_reader.specs.Reading.{core_reading}

-- an event with its range so many bytes nearer to the front, but not in front of it
abbrev pub moved_back : ℕ → EventView × (ℕ × ℕ) → EventView × (ℕ × ℕ)
moved_back count e = (e.0, ((e.1).0 - count, (e.1).1 - count))

-- a reading whose ranges are moved back by so many bytes is another one: events, and the labels that are defined or looked up in vain
pub record IsMovedBack (count : ℕ) (further reading : ReadingView) : Type 0 where
  pub events : map (moved_back count) further.events ≡ reading.events
  pub defined : further.defined ≡ reading.defined
  pub unresolved : further.unresolved ≡ reading.unresolved

-- line feeds in front of a text move the ranges of its events by their number, and change nothing else of what is read
abbrev pub EmptyLinesInFront : Type 0
EmptyLinesInFront = (text : List ℕ) (count : ℕ) → length text + count + 2 < 2 ^ 64 → IsMovedBack count (core_reading (replicate count 10 ++ text)) (core_reading text)
