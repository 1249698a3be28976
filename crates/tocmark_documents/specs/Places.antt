-- Where a list of events is refused.
use Rattle.std.specs.Prelude.{◌≡◌, ◌-◌, ◌≤◌, ℕ, List, Option, length, max, option_and_then, option_map, slice_get}
use Rattle.tocmark_json.specs.Positions.{position_of}
use Rattle.tocmark_documents.specs.declared.refusal.Progress.{Progress}
use Rattle.tocmark_rewrite.specs.declared.fault.Place.{Place}
use Rattle.tocmark_state.specs.Ranges.{Pair, Range}

-- the number of the line on which a byte is
abbrev pub line_of : List ℕ → ℕ → ℕ
line_of text at = (position_of text at).line

-- the lines of a range: those of its first byte and of its last one, or one line if it has no byte
abbrev pub lines_of : List ℕ → Range → ℕ × ℕ
lines_of text r = (line_of text r.0, max (line_of text r.0) (line_of text (r.1 - 1)))

-- the range of the event of this number, if it has one
abbrev pub range_at : List Pair → ℕ → Option Range
range_at pairs event = option_and_then (λ p. p.1) (slice_get pairs event)

-- the lines of the event of this number, if it has a range
abbrev pub lines_at : List ℕ → List Pair → ℕ → Option (ℕ × ℕ)
lines_at source pairs event = option_map (lines_of source) (range_at pairs event)

-- a place is that of an event of a list, with its lines in the source; an empty list has its place at 0
pub record IsPlaceIn (source : List ℕ) (pairs : List Pair) (place : Place) : Type 0 where
  pub within : place.event ≤ length pairs - 1
  pub lines : place.lines ≡ lines_at source pairs place.event

-- what was written of a list names no event after this one
abbrev pub IsWithin : ℕ → Progress → Type 0
IsWithin at progress = (progress.unwritten ≤ at) × (progress.tree ≤ at)
