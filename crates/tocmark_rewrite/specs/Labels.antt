-- The labels that a text defines.
use Rattle.std.specs.Prelude.{ℕ, Bool, IsTrue, List, bytes_eq}
use Rattle.std.specs.List.{list_any}

-- whether a label is among others, byte for byte
abbrev pub has_label : List ℕ → List (List ℕ) → Bool
has_label label = list_any (λ other. bytes_eq other label)

-- each of the first labels is among the second ones
abbrev pub AreAmong : List (List ℕ) → List (List ℕ) → Type 0
AreAmong labels others = (label : List ℕ) → IsTrue (has_label label labels) → IsTrue (has_label label others)
