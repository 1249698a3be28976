-- Events that wait for their unit, as plain values.
use Rattle.std.specs.Prelude.{ℕ, List, Option, Some, None, string_bytes, String}
use Rattle.std.specs.Option.{option_map}
use Rattle.std.specs.Borrow.{Bor}
use Rattle.tocmark_event.specs.View.{EventView, Start, End, Leaf, SourcedEvent, event_view}
use Rattle.tocmark_event.specs.Text.{ParserEvent, text_of}
use Rattle.tocmark_event.specs.declared.event.EventOf.{EventOf}
use Rattle.std.specs.Global.{Global}
use Rattle.tocmark_spelling.specs.declared.buffered.BufferedEvent.{BufferedEvent}

-- an event with its spelling in the source, which only a leaf has
abbrev pub sourced : EventView → Option (List ℕ) → SourcedEvent
sourced (Start t) source = Start t
sourced (End k) source = End k
sourced (Leaf l) source = Leaf (record { leaf = l; source = source })

-- the event that waits, without its spelling in the source
abbrev pub event_of : BufferedEvent → EventView
event_of b = event_view string_bytes b.event

-- the event that waits, with its spelling in the source where that is known
abbrev pub buffered_view : BufferedEvent → SourcedEvent
buffered_view b = sourced (event_of b) (option_map string_bytes b.source)

-- the event that follows, if there is one
abbrev pub following_view : Option (Bor (EventOf (String Global))) → Option EventView
following_view next = option_map (λ e. event_view string_bytes e.now) next

-- the same of an event that a caller lends
abbrev pub next_view : Option (Bor ParserEvent) → Option EventView
next_view None = None
next_view (Some e) = Some (event_view text_of e.now)
