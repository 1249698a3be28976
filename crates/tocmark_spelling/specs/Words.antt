-- Words on texts, which are lists of bytes.
use Rattle.std.specs.Prelude.{ℕ, Bool, true, false, not, ◌||◌, Option, Some, None, List, [], ◌∷◌, chars, nat_eq, reverse, slice_get, slice_index}
use Rattle.std.specs.List.{starts_with}

-- the first and the last character
abbrev pub first_character : List ℕ → Option ℕ
first_character text = slice_get (chars text) 0

-- the last character, if there is one
abbrev pub last_character : List ℕ → Option ℕ
last_character text = slice_get (reverse (chars text)) 0

-- the last byte; 0 where there is none
abbrev pub last_byte : List ℕ → ℕ
last_byte text = slice_index (reverse text) 0

-- whether a text begins with another
abbrev pub begins_with : List ℕ → List ℕ → Bool
begins_with text piece = starts_with nat_eq text piece

-- whether a text is somewhere in another
abbrev pub holds : List ℕ → List ℕ → Bool
holds [] piece = begins_with [] piece
holds (b ∷ bs) piece = begins_with (b ∷ bs) piece || holds bs piece

-- the first of two that is there
abbrev pub or_else : {A : Type 0} → Option A → Option A → Option A
or_else (Some a) later = Some a
or_else None later = later

-- whether both are true or both are false
abbrev pub same_truth : Bool → Bool → Bool
same_truth true b = b
same_truth false b = not b

-- the character `*`
abbrev pub asterisk : ℕ
asterisk = 42

-- the character `-`
abbrev pub hyphen : ℕ
hyphen = 45
