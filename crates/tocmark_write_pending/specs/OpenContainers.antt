-- Which containers are open after events, and where those end that aren't, as one event more joins them.
use Rattle.std.specs.Prelude.{◌≡◌, ℕ, zero, suc, Option, Some, None, List, [], ◌∷◌, ◌++◌, drop, length, set}
use Rattle.tocmark_event.specs.View.{EventView, SourcedEvent, TagView, Start, End, Leaf}

-- how many containers are open after these events, those aside in which the container is that is open with so many
-- others inside it; none where that one is ended among them
abbrev pub left_open : ℕ → List SourcedEvent → Option ℕ
left_open d [] = Some d
left_open d (Start t ∷ es) = left_open (suc d) es
left_open zero (End k ∷ es) = None
left_open (suc d) (End k ∷ es) = left_open d es
left_open d (Leaf l ∷ es) = left_open d es

-- a container starts at this place, and is open with so many others inside it
pub record IsOpenAt (es : List SourcedEvent) (i k : ℕ) : Type 0 where
  pub tag : TagView
  pub rest : List SourcedEvent
  pub starts : drop i es ≡ Start tag ∷ rest
  pub within : left_open 0 rest ≡ Some k

-- these are the places of the open containers, innermost first, from one on in which so many others are open
abbrev pub AreOpenFrom : List SourcedEvent → ℕ → List ℕ → Type 0
AreOpenFrom es k [] = Unit {0}
AreOpenFrom es k (i ∷ is) = IsOpenAt es i k × AreOpenFrom es (suc k) is

-- the places of the open containers, innermost first, once an event joins that is at a place
abbrev pub opened : EventView → ℕ → List ℕ → List ℕ
opened (Start t) i is = i ∷ is
opened (End k) i [] = []
opened (End k) i (p ∷ is) = is
opened (Leaf l) i is = is

-- the place of the innermost of these, if there is one
abbrev pub innermost_of : List ℕ → Option ℕ
innermost_of [] = None
innermost_of (p ∷ is) = Some p

-- the place of the container that an event ends, the innermost of these; none where it ends none
abbrev pub ended_by : EventView → List ℕ → Option ℕ
ended_by (Start t) is = None
ended_by (End k) is = innermost_of is
ended_by (Leaf l) is = None

-- an event after others ends the container at this place, the innermost one; where it is no End there is no place
abbrev pub EndsAt : List SourcedEvent → SourcedEvent → Option ℕ → Type 0
EndsAt es (End k) (Some p) = IsOpenAt es p 0
EndsAt es (End k) None = ⊥
EndsAt es e (Some p) = ⊥
EndsAt es e None = Unit {0}

-- at each Start the place where its container ends, with one event more, which ends the container at this place
abbrev pub ends_with : Option ℕ → List (Option ℕ) → List (Option ℕ)
ends_with None ends = ends ++ None ∷ []
ends_with (Some p) ends = set ends p (Some (length ends)) ++ None ∷ []
