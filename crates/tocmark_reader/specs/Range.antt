-- Ranges of a text: the first byte, and the byte after the last.
use Rattle.std.specs.Prelude.{ℕ, Bool, ◌≤◌, ◌==◌, ◌&&◌, ◌||◌, nat_lt, nat_le, if◌then◌else◌, List, length, slice_index}
use Rattle.std.specs.List.{AllByRecursion}
use Rattle.std.specs.Str.{IsCharBoundary}

-- the text may be cut here: at its end, or before the first byte of a character
abbrev pub is_cut : List ℕ → ℕ → Bool
is_cut text at =
    if nat_lt at (length text) then nat_lt (slice_index text at) 128 || nat_le 192 (slice_index text at)
    else (at == length text)

-- the range, or an empty one at the front where it is none of the text
abbrev pub snapped : List ℕ → ℕ → ℕ → ℕ × ℕ
snapped text start end =
    if nat_le start end && is_cut text start && is_cut text end then (start, end) else (0, 0)

-- a range is in order, within the text and on boundaries of characters
pub record IsGoodRange (text : List ℕ) (range : ℕ × ℕ) : Type 0 where
  pub ordered : range.0 ≤ range.1
  pub start : IsCharBoundary text range.0
  pub end : IsCharBoundary text range.1

-- each event's range is good
abbrev pub HasGoodRanges : {E : Type 0} → List ℕ → List (E × (ℕ × ℕ)) → Type 0
HasGoodRanges text es = AllByRecursion (λ e. IsGoodRange text (e.1)) es
