-- Characters that stand for themselves after another one.
use Rattle.std.specs.Prelude.{ℕ, Bool, not, ◌||◌, if◌then◌else◌, List, [], ◌∷◌, codes}
use Rattle.std.specs.Char.{char_set_contains}
use Rattle.std.specs.List.{prefix_len}
use Rattle.tocmark_write_texts.specs.Characters.{ampersand, line_feed, carriage_return}
use Rattle.tocmark_write_texts.specs.Escape.{Surroundings}

-- whether a character could be part of a marker after another one, or is written as a reference
abbrev pub is_mark : ℕ → Bool
is_mark c =
    char_set_contains (codes "*[]<~`") c || char_set_contains (codes "\\^${_|#!") c
    || char_set_contains (ampersand ∷ line_feed ∷ carriage_return ∷ []) c

-- whether it is none
abbrev pub is_bare : ℕ → Bool
is_bare c = not (is_mark c)

-- how many bytes at a text's front stand for themselves: none after digits alone, before what may be encoded, or where emphasis has a marker of its own
abbrev pub bare_size : Surroundings → Bool → List ℕ → ℕ
bare_size p only_digits text =
    if only_digits || p.last_encoded || not (char_set_contains (codes "*_") p.token) then 0 else prefix_len is_bare text

-- the last one of a character and those after it
abbrev pub last_of : ℕ → List ℕ → ℕ
last_of c [] = c
last_of c (d ∷ ds) = last_of d ds
