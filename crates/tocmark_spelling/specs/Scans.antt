-- What a scan over flat events finds.
use Rattle.std.specs.Prelude.{◌≡◌, ℕ, zero, suc, ◌+◌, Bool, false, if◌then◌else◌, nat_lt, Option, Some, None, List, [], ◌∷◌, length, drop, slice_get, slice_index_or}
use Rattle.tocmark_event.specs.View.{SourcedEvent, LeafView, Start, End, Leaf}

-- how many events are before the End of the container that is open with so many others inside it, or before the list's end
abbrev pub span : ℕ → List SourcedEvent → ℕ
span d [] = 0
span d (Start t ∷ es) = suc (span (suc d) es)
span zero (End k ∷ es) = 0
span (suc d) (End k ∷ es) = suc (span d es)
span d (Leaf l ∷ es) = suc (span d es)

-- the place of that End, if it is there, among events that are from a place on
abbrev pub end_from : ℕ → ℕ → List SourcedEvent → Option ℕ
end_from d i es = if nat_lt (span d es) (length es) then Some (i + span d es) else None

-- the place where the container ends that the first of these events starts, which is at a place; none where it starts none
-- or the container isn't ended
abbrev pub end_at : ℕ → List SourcedEvent → Option ℕ
end_at i (Start t ∷ es) = end_from 0 (i + 1) es
end_at i es = None

-- at each Start the place where its container ends, if it does; none at other events
pub record AreEnds (es : List SourcedEvent) (ends : List (Option ℕ)) : Type 0 where
  pub len : length ends ≡ length es
  pub at : (i : ℕ) → slice_index_or ends i None ≡ end_at i (drop i es)

-- a list without its first number; nothing of an empty one
abbrev pub tail_of : List ℕ → List ℕ
tail_of [] = []
tail_of (x ∷ xs) = xs

-- the places of the Ends that close what is open, innermost first, before an event at this place
abbrev pub closers_before : SourcedEvent → ℕ → List ℕ → List ℕ
closers_before (End k) i closers = i ∷ closers
closers_before (Start t) i closers = tail_of closers
closers_before (Leaf l) i closers = closers

-- the first of them is that of the container that an event starts
abbrev pub closer_of : SourcedEvent → List ℕ → Option ℕ
closer_of (Start t) closers = slice_get closers 0
closer_of e closers = None

-- a leaf that passes a test
abbrev pub is_leaf : (LeafView → Bool) → SourcedEvent → Bool
is_leaf test (Leaf l) = test l.leaf
is_leaf test e = false
