-- The letters of a text, which need no reader.
use Rattle.std.specs.Prelude.{ℕ, Bool, ◌&&◌, ◌||◌, List, leb}
use Rattle.std.specs.List.{filter}

-- an ASCII letter, or a byte of a character past ASCII
abbrev pub is_letter : ℕ → Bool
is_letter b = (leb 65 b && leb b 90) || (leb 97 b && leb b 122) || leb 128 b

-- the letters of a text, in their order
abbrev pub letters : List ℕ → List ℕ
letters text = filter is_letter text
