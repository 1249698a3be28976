-- Arithmetic and look-ups that answer at every argument.
use Rattle.std.specs.Prelude.{ℕ, Bool, ◌+◌, ◌-◌, ◌^◌, ◌&&◌, ◌||◌, min, nat_lt, nat_le, nat_eq, if◌then◌else◌, List, [], length, drop, slice_get, slice_range, unwrap_or}
use Rattle.std.specs.List.{starts_with}

-- the sum, or the greatest number of 64 bits
abbrev pub plus : ℕ → ℕ → ℕ
plus a b = min (a + b) (2 ^ 64 - 1)

-- the byte at a place; a line feed past the end
abbrev pub byte_at : List ℕ → ℕ → ℕ
byte_at bytes place = unwrap_or (slice_get bytes place) 10

-- the bytes from one place to before another
abbrev pub bytes_between : List ℕ → ℕ → ℕ → List ℕ
bytes_between bytes start end = if nat_le start end && nat_le end (length bytes) then slice_range bytes start end else []

-- whether a word is at a place
unfoldable pub starts_at : List ℕ → ℕ → List ℕ → Bool
starts_at bytes place word = starts_with nat_eq (drop place bytes) word

-- the character of a code point; U+FFFD where there is none
unfoldable pub character_of : ℕ → ℕ
character_of code = if nat_lt code 0xD800 || (nat_le 0xE000 code && nat_le code 0x10FFFF) then code else 0xFFFD
