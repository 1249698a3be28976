-- Plain texts: what may be in a line, and in front of it, so that each character is read as itself.
use Rattle.std.specs.Prelude.{ℕ, ◌+◌, Bool, true, false, not, ◌==◌, ◌&&◌, ◌||◌, if◌then◌else◌, List, [], ◌∷◌, ◌++◌, bytes_eq, codes, encode_utf8}
use Rattle.std.specs.Char.{char_set_contains, is_ascii_alphanumeric, is_ascii_digit, is_ascii_punctuation}
use Rattle.tocmark_read_scan.specs.Basic.{byte_at}

-- a part of a text: a byte, a byte after a backslash, a character by a reference (with the bytes after its `&`), or a line feed
pub data Part : Type 0 where
  Bare : ℕ → Part
  Escaped : ℕ → Part
  Referred : ℕ → List ℕ → Part
  Feed : Part

-- a part in bytes
abbrev pub spelled_part : Part → List ℕ
spelled_part (Bare b) = b ∷ []
spelled_part (Escaped b) = 92 ∷ b ∷ []
spelled_part (Referred c bs) = 38 ∷ bs
spelled_part Feed = 10 ∷ []

-- parts in bytes
abbrev pub spelled : List Part → List ℕ
spelled [] = []
spelled (a ∷ parts) = spelled_part a ++ spelled parts

-- what the parts of a line mean
abbrev pub meant : List Part → List ℕ
meant [] = []
meant (Bare b ∷ parts) = b ∷ meant parts
meant (Escaped b ∷ parts) = b ∷ meant parts
meant (Referred c bs ∷ parts) = encode_utf8 c ++ meant parts
meant (Feed ∷ parts) = meant parts

-- a byte that means itself wherever it is in a line
abbrev pub is_inert : ℕ → Bool
is_inert b = not (char_set_contains (codes "*_[]<`!\\&\n") b)

-- a byte that means itself between these two: an inert one, `!` with no `[` after it, `\` with neither punctuation nor a line
-- feed after it, and `_` between letters or digits
abbrev pub is_plain_byte : ℕ → ℕ → ℕ → Bool
is_plain_byte before b behind =
    is_inert b
    || ((b == 33) && not (behind == 91))
    || ((b == 92) && not (is_ascii_punctuation behind) && not (behind == 10))
    || ((b == 95) && is_ascii_alphanumeric before && is_ascii_alphanumeric behind)

-- `&amp;` for an ampersand, and `&#32;` for a space
abbrev pub is_plain_reference : ℕ → List ℕ → Bool
is_plain_reference c bs = ((c == 38) && bytes_eq bs (codes "amp;")) || ((c == 32) && bytes_eq bs (codes "#32;"))

-- a part that means what it is for, between these two bytes
abbrev pub is_plain_part : ℕ → Part → ℕ → Bool
is_plain_part before (Bare b) behind = is_plain_byte before b behind
is_plain_part before (Escaped b) behind = is_ascii_punctuation b
is_plain_part before (Referred c bs) behind = is_plain_reference c bs
is_plain_part before Feed behind = not (before == 32)

-- the last byte of a text, or the one before it
abbrev pub last_byte : ℕ → List ℕ → ℕ
last_byte before [] = before
last_byte before (b ∷ bs) = last_byte b bs

-- parts each of which means what it is for, by the byte before it and the byte after it; past the end is a line feed
abbrev pub are_plain_parts : ℕ → List Part → Bool
are_plain_parts before [] = true
are_plain_parts before (a ∷ parts) =
    is_plain_part before a (byte_at (spelled parts) 0) && are_plain_parts (last_byte before (spelled_part a)) parts

-- a byte with which a line begins that begins no block
abbrev pub is_quiet : ℕ → Bool
is_quiet b = not (char_set_contains (codes " ><*-+=_#`~") b) && not (is_ascii_digit b)

-- whether `.` or `)` is after the digits in front
abbrev pub ends_number : List ℕ → Bool
ends_number [] = false
ends_number (c ∷ cs) = if is_ascii_digit c then ends_number cs else (c == 46) || (c == 41)

-- whether something other than a space, `-` and `=` is in front
abbrev pub goes_on : List ℕ → Bool
goes_on [] = false
goes_on (c ∷ cs) = not (char_set_contains (codes " -=") c)

-- a line that begins no block: with a quiet byte in front, digits without `.` and `)`, or `-`, `+` or `=` that goes on
abbrev pub begins_plainly : List ℕ → Bool
begins_plainly [] = false
begins_plainly (b ∷ bs) =
    is_quiet b || (is_ascii_digit b && not (ends_number (b ∷ bs))) || (char_set_contains (codes "-+=") b && goes_on bs)
