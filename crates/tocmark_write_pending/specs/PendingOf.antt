-- What the fields of the events that wait mean, and what is true of them.
use Rattle.std.specs.Prelude.{◌≡◌, ℕ, Bool, false, Option, List, map, reverse}
use Rattle.tocmark_event.specs.Forest.{IsReading}
use Rattle.tocmark_event.specs.View.{SourcedEvent}
use Rattle.tocmark_event.specs.declared.event.TagEnd.{TagEnd}
use Rattle.tocmark_spelling.specs.Buffered.{buffered_view}
use Rattle.tocmark_spelling.specs.Scans.{AreEnds}
use Rattle.tocmark_write_pending.specs.DelimiterColumn.{AreNumbered, numbers_of, widths_of}
use Rattle.tocmark_write_pending.specs.OpenContainers.{AreOpenFrom}
use Rattle.tocmark_write_pending.specs.Pending.{PendingView}
use Rattle.tocmark_write_pending.specs.RunColumn.{HoldRuns, run_view}
use Rattle.tocmark_write_pending.specs.Waiting.{has_ambiguous_list}
use Rattle.tocmark_write_pending.specs.WidthColumn.{AreWidths}
use Rattle.tocmark_write_pending.specs.declared.delimiters.Delimiter.{Delimiter}
use Rattle.tocmark_write_pending.specs.declared.nesting.OpenContainer.{OpenContainer}
use Rattle.tocmark_write_pending.specs.declared.pending.Pending.TheInside.{Inside}
use Rattle.tocmark_write_pending.specs.declared.runs.Run.{Run}

-- the Ends of these open containers, innermost first
abbrev pub ends_awaited : List OpenContainer → List TagEnd
ends_awaited cs = reverse (map (λ (c : OpenContainer). c.end) cs)

-- the places where they start, likewise
abbrev pub places_of : List OpenContainer → List ℕ
places_of cs = reverse (map (λ (c : OpenContainer). c.place) cs)

-- the events begin a forest's, in which just these containers are open, which start at these places; this is where the
-- others end, and whether a list among them needs a placeholder
pub record AreIndexed (es : List SourcedEvent) (awaited : List TagEnd) (places : List ℕ) (ends : List (Option ℕ)) (ambiguous : Bool) : Type 0 where
  pub nested : IsReading es awaited
  pub places_open : AreOpenFrom es 0 places
  pub ends_known : AreEnds es ends
  pub ambiguity : ambiguous ≡ has_ambiguous_list false es

-- these are the runs of delimiters among the events, in order, and what is kept of each event up to the last delimiter
pub record AreDelimiters (es : List SourcedEvent) (runs : List Run) (delimiters : List Delimiter) : Type 0 where
  pub runs_held : HoldRuns (reverse es) (reverse (map run_view runs))
  pub numbered : AreNumbered es (numbers_of delimiters)
  pub widths : AreWidths es (widths_of delimiters)

-- the events with their spellings, and the open containers, innermost first
abbrev pub pending_of : Inside → PendingView
pending_of a = record { events = map buffered_view a.events.items; open_tags = ends_awaited a.containers.items }

-- what is kept beside the events is what the definitions give for them now
abbrev pub IsIndexed : Inside → Type 0
IsIndexed a =
    AreIndexed (map buffered_view a.events.items) (ends_awaited a.containers.items) (places_of a.containers.items) a.ends.items a.is_ambiguous
    × AreDelimiters (map buffered_view a.events.items) a.runs.items a.delimiters.items
