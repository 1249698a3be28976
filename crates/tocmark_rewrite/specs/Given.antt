-- Edited events that are handed on one after the other.
use Rattle.std.specs.Prelude.{ℕ, List, Option, Some, map}
use Rattle.std.specs.Slice.Iter.{iter_rest}
use Rattle.tocmark_event.specs.Text.{text_of}
use Rattle.tocmark_event.specs.View.{EventView, event_view}
use Rattle.tocmark_rewrite.specs.declared.given.GivenEvents.{GivenEvents}
use Rattle.tocmark_rewrite.specs.declared.given.GivenPairs.{GivenPairs}

-- the events that are still to come, each with its range
abbrev pub given_left : GivenPairs → List (EventView × Option (ℕ × ℕ))
given_left s = map (λ e. (event_view text_of e.0, Some e.1)) (iter_rest s.0)

-- the events that are still to come, without their ranges
abbrev pub given_alone : GivenEvents → List EventView
given_alone s = map (λ e. event_view text_of e.0) (iter_rest s.0)
