-- The nodes whose markers would be asterisks that could close the emphasis round them, as they are looked for.
use Rattle.std.specs.Prelude.{◌≡◌, ℕ, Bool, false, not, ◌&&◌, ◌||◌, Option, Some, None, List}
use Rattle.tocmark_event.specs.View.{SourcedEvent, Start}
use Rattle.tocmark_spelling.specs.Plan.{Setting}
use Rattle.tocmark_spelling.specs.Runs.{counts, disturbs_at}
use Rattle.tocmark_write_pending.specs.Pending.{PendingView}
use Rattle.tocmark_write_texts.specs.Characters.{is_white_space}

-- an asterisk could close emphasis after this character, given whether it and the one after are boundaries
abbrev pub closes_at : Option ℕ → Bool → Bool → Bool
closes_at None at_before at_first = false
closes_at (Some c) at_before at_first = not (is_white_space c) && (not at_before || at_first)

-- whether an event starts a node that disturbs, given the characters before its Start, after it, and after its End
abbrev pub mark_of : Setting → Bool → SourcedEvent → Option ℕ → Option ℕ → Option ℕ → Bool
mark_of s runs (Start t) before first after = counts runs t && disturbs_at s before first after
mark_of s runs e before first after = false

-- these are the events of a unit, if one is given
abbrev pub AreEventsOf : List SourcedEvent → Option PendingView → Type 0
AreEventsOf es None = Unit {0}
AreEventsOf es (Some unit) = unit.events ≡ es
