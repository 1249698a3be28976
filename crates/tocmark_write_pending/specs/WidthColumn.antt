-- How many markers each container opens with that has ended, as one event more joins the others.
use Rattle.std.specs.Prelude.{◌≡◌, ℕ, ◌+◌, ◌-◌, Bool, true, false, if◌then◌else◌, ◌==◌, ◌&&◌, nat_lt, is_none, Option, Some, None, List, [], ◌∷◌, drop, slice_index_or}
use Rattle.tocmark_event.specs.View.{SourcedEvent, Emphasis, Strong, Start}
use Rattle.tocmark_spelling.specs.Runs.{start_width}
use Rattle.tocmark_write_pending.specs.Ahead.{behind_body, width_ahead_of}
use Rattle.tocmark_write_pending.specs.OpenContainers.{left_open}

-- whether the container has ended after whose Start these events are
abbrev pub is_ended : List SourcedEvent → Bool
is_ended rest = is_none (left_open 0 rest)

-- how many markers the container opens with that the first of these events starts, if it has ended; 0 for another one, and
-- where none starts
abbrev pub width_at : List SourcedEvent → ℕ
width_at [] = 0
width_at (Start t ∷ rest) = if is_ended rest then width_ahead_of t rest else 0
width_at (e ∷ rest) = 0

-- so it is at each place, and after the last of these widths there are none
pub record AreWidths (es : List SourcedEvent) (widths : List ℕ) : Type 0 where
  pub at : (i : ℕ) → slice_index_or widths i 0 ≡ width_at (drop i es)

-- what a first child adds to the container that ends after it, given whether it is its only child, and its own width
abbrev pub added_by : SourcedEvent → Bool → ℕ → ℕ
added_by (Start Emphasis) only width = if only then 0 else width
added_by (Start Strong) only width = width
added_by e only width = 0

-- whether no event is left
abbrev pub is_none_left : List SourcedEvent → Bool
is_none_left [] = true
is_none_left (e ∷ es) = false

-- what the first event of a body adds to its container, if an End ends that now: by the width of the container that it starts
abbrev pub first_added : List SourcedEvent → ℕ
first_added [] = 0
first_added (x ∷ es) = added_by x (is_none_left (behind_body es)) (width_at (x ∷ es))

-- how many markers the container opens with that the first of these events starts, if an End ends it now
abbrev pub width_now : List SourcedEvent → ℕ
width_now [] = 0
width_now (x ∷ rest) = start_width x + first_added rest

-- how many markers the container opens with that an event after these ends, whose Start is at a place, if it ends one
abbrev pub width_ended : List SourcedEvent → Option ℕ → ℕ
width_ended es None = 0
width_ended es (Some p) = width_now (drop p es)

-- the same of the first of some events, given whether the first child is the only one, and its width
abbrev pub width_by : List SourcedEvent → Bool → ℕ → ℕ
width_by [] only width = 0
width_by (x ∷ []) only width = start_width x
width_by (x ∷ y ∷ es) only width = start_width x + added_by y only width

-- a container ended with the last of so many events
abbrev pub is_last : Option ℕ → ℕ → Bool
is_last None n = false
is_last (Some i) n = nat_lt i n && (n - i == 1)
