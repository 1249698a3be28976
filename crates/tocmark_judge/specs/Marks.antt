-- The byte order mark at the front of a text, which is no text.
use Rattle.std.specs.Prelude.{ℕ, Bool, if◌then◌else◌, ◌==◌, List, [], ◌∷◌, drop}
use Rattle.std.specs.List.{starts_with}

-- U+FEFF
abbrev pub mark : List ℕ
mark = 0xEF ∷ 0xBB ∷ 0xBF ∷ []

abbrev pub has_mark : List ℕ → Bool
has_mark text = starts_with (λ a b. a == b) text mark

-- what comes after the mark, or all of a text without one
abbrev pub after_mark : List ℕ → List ℕ
after_mark text = if has_mark text then drop 3 text else text
