-- The open containers, those of a mark, and what is done to them.
use Rattle.std.specs.Prelude.{ℕ, zero, suc, Bool, false, ◌==◌, List, [], ◌∷◌, Option, Some, None, is_some}
use Rattle.tocmark_event.specs.View.{TagView}
use Rattle.tocmark_spelling.specs.Page.{OpeningChoice, Listed, Level, Path}

-- the open containers, and which were open at the mark, if one is set
pub record Nesting : Type 0 where
  pub path : Path
  pub at_mark : Option Path

-- one more container, whose opening ends at this place
abbrev pub entered : TagView → List ℕ → ℕ → OpeningChoice → Path → Path
entered t prefix start content path = record { tag = t; prefix = prefix; start = start; content = content } ∷ path

-- the innermost open container, if there is one
abbrev pub head_of : Path → Option Level
head_of [] = None
head_of (l ∷ path) = Some l

-- a container with its content changed
abbrev pub changed_level : (OpeningChoice → OpeningChoice) → Level → Level
changed_level f l = record l { content = f l.content }

-- the content of an open container changed; the innermost is 0
abbrev pub changed : ℕ → (OpeningChoice → OpeningChoice) → Path → Path
changed n f [] = []
changed zero f (l ∷ path) = changed_level f l ∷ path
changed (suc n) f (l ∷ path) = l ∷ changed n f path

-- what a list keeps, with this number for its next item; that of another container does not change
abbrev pub numbered : Option ℕ → OpeningChoice → OpeningChoice
numbered number (Listed c) = Listed (record c { number = number })
numbered number c = c

-- the innermost container, if it is a list, goes on with this number
abbrev pub renumbered : Option ℕ → Path → Path
renumbered number path = changed 0 (numbered number) path

-- whether what a container keeps is a list's next number
abbrev pub has_number : OpeningChoice → Bool
has_number (Listed c) = is_some c.number
has_number c = false

-- whether the innermost container is a list with numbers
abbrev pub is_counted : Path → Bool
is_counted [] = false
is_counted (l ∷ path) = has_number l.content

-- the innermost container's opening ended at this place
abbrev pub starts_at : ℕ → Path → Bool
starts_at place [] = false
starts_at place (l ∷ path) = l.start == place
