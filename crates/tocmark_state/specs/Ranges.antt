-- Events with ranges in a source.
use Rattle.std.specs.Prelude.{ℕ, ◌-◌, List, Bool, ◌==◌, ◌&&◌, ◌||◌, nat_lt, nat_le, if◌then◌else◌, Option, Some, None, Result, Ok, Err, slice_index, slice_range, length, ◌≡◌, MatchOption}
use Rattle.tocmark_event.specs.View.{EventView, Start, Leaf, Text, SourcedEvent}
use Rattle.tocmark_event.specs.declared.options.Error.{Error}
use Rattle.tocmark_event.specs.declared.options.Error.TheVariants as error
use Rattle.tocmark_spelling.specs.Buffered.{sourced}
use Rattle.tocmark_state.specs.declared.ranges.Unranged.{Unranged}

-- a byte range: the first byte, and the one after the last
abbrev pub Range : Type 0
Range = ℕ × ℕ

-- an event, and its range if it has one
abbrev pub Pair : Type 0
Pair = EventView × Option Range

-- an event without a range
abbrev pub unranged : EventView → Pair
unranged e = (e, None)

-- a step over items that come without ranges is one over these items
abbrev pub unranged_steps : {S A : Type 0} → (S → Option A → S → Type 0) → Unranged S → Option (A × Option Range) → Unranged S → Type 0
unranged_steps steps s r t =
    MatchOption r (steps s.events None t.events) (λ x. steps s.events (Some x.0) t.events × (x.1 ≡ None))

-- the place is the end of the text, or that of a byte that begins a character
abbrev pub is_character_boundary : List ℕ → ℕ → Bool
is_character_boundary source n =
    n == length source || (nat_lt n (length source) && (nat_lt (slice_index source n) 128 || nat_le 192 (slice_index source n)))

-- the range isn't reversed, ends within the source and has its ends on character boundaries
abbrev pub is_good_range : List ℕ → Range → Bool
is_good_range source range =
    nat_le range.0 range.1 && is_character_boundary source range.0 && is_character_boundary source range.1

-- where the spelling of a text starts: one byte earlier, where that is a backslash that no earlier range holds
abbrev pub spelling_start : List ℕ → ℕ → ℕ → ℕ
spelling_start source range_end start =
    if nat_lt range_end start && slice_index source (start - 1) == 92 then start - 1 else start

-- the spelling in the source, which only a text has
abbrev pub source_text : List ℕ → ℕ → EventView → Range → Option (List ℕ)
source_text source range_end (Leaf (Text t)) range = Some (slice_range source (spelling_start source range_end range.0) range.1)
source_text source range_end e range = None

-- the end of the last range, Starts left out
abbrev pub range_end_after : ℕ → EventView → Range → ℕ
range_end_after range_end (Start t) range = range_end
range_end_after range_end e range = range.1

-- the same of an event and its range
abbrev pub resolved_at : List ℕ → ℕ → EventView → Option Range → Result (SourcedEvent × ℕ) Error
resolved_at source range_end e None = Ok (sourced e None, range_end)
resolved_at source range_end e (Some range) =
    if is_good_range source range
    then Ok (sourced e (source_text source range_end e range), range_end_after range_end e range)
    else Err error.InvalidSourceRange

-- an event with its spelling in the source, and the end of the last range after it; a bad range is refused
abbrev pub resolved : List ℕ → ℕ → Pair → Result (SourcedEvent × ℕ) Error
resolved source range_end pair = resolved_at source range_end pair.0 pair.1
