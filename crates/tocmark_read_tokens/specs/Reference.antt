-- Character references and escapes (CommonMark 2.4 and 2.5).
use Rattle.std.specs.Prelude.{ℕ, Bool, ◌+◌, ◌-◌, ◌*◌, ◌^◌, min, ◌==◌, ◌&&◌, ◌||◌, nat_lt, nat_le, if◌then◌else◌, List, [], ◌∷◌, ◌++◌, fold, codes, encode_utf8, Option, Some, None}
use Rattle.std.specs.Char.{is_ascii_punctuation}
use Rattle.tocmark_read_scan.specs.Basic.{plus, byte_at, character_of, bytes_between, starts_at}
use Rattle.tocmark_read_scan.specs.Class.{run_end}
use Rattle.tocmark_read_scan.specs.declared.class.Class.TheVariants.{Digit, HexDigit}
use Rattle.tocmark_read_scan.specs.declared.syntax.Names.{Names}
use Rattle.tocmark_read_tokens.specs.Name.{Named, named_in}
use Rattle.tocmark_read_tokens.specs.declared.reference.Reference.{Reference}
use Rattle.tocmark_read_tokens.specs.declared.reference.Unescaping.{Unescaping}

-- the value of a hexadecimal digit
unfoldable pub digit : ℕ → ℕ
digit b =
    if nat_le 48 b && nat_le b 57 then b - 48
    else (if nat_le 97 b && nat_le b 102 then b - 97 + 10
    else (if nat_le 65 b && nat_le b 70 then b - 65 + 10 else 0))

-- one digit further, in 32 bits
abbrev pub number_step : ℕ → ℕ → ℕ → ℕ
number_step base value b = min (min (value * base) (2 ^ 32 - 1) + digit b) (2 ^ 32 - 1)

-- the number that digits write
unfoldable pub number : ℕ → List ℕ → ℕ
number base digits = fold (number_step base) 0 digits

-- the character of a code point; U+FFFD for 0 and where there is none
unfoldable pub character : ℕ → ℕ
character code = if code == 0 then 0xFFFD else character_of code

-- the reference to a number of 1 to so many digits, with a semicolon after it
unfoldable pub closed_number : List ℕ → ℕ → ℕ → ℕ → ℕ → Option Reference
closed_number bytes start end base most =
    if nat_lt start end && nat_le end (plus start most) && (byte_at bytes end == 59)
    then Some (record { character = character (number base (bytes_between bytes start end)); next = plus end 1 })
    else None

-- a numeric reference: 1 to 7 decimal digits, or 1 to 6 hexadecimal ones
unfoldable pub numeric : List ℕ → ℕ → Option Reference
numeric bytes place =
    let start = plus place 2 in
    let sign = byte_at bytes start in
    if (sign == 120) || (sign == 88)
    then closed_number bytes (plus start 1) (run_end bytes (plus start 1) HexDigit) 16 6
    else closed_number bytes start (run_end bytes start Digit) 10 7

-- a character and the place after its reference
unfoldable pub referred : ℕ → ℕ → Option Reference
referred c next = Some (record { character = c; next = next })

-- a reference by one of four names
unfoldable pub named : List ℕ → ℕ → Option Reference
named bytes place =
    if starts_at bytes place (codes "&amp;") then referred 38 (plus place 5)
    else (if starts_at bytes place (codes "&lt;") then referred 60 (plus place 4)
    else (if starts_at bytes place (codes "&gt;") then referred 62 (plus place 4)
    else (if starts_at bytes place (codes "&quot;") then referred 34 (plus place 6) else None)))

-- the character reference at a place
unfoldable pub reference_at : List ℕ → ℕ → Option Reference
reference_at bytes place = if starts_at bytes place (codes "&#") then numeric bytes place else named bytes place

-- a backslash with ASCII punctuation after it
unfoldable pub is_escape : List ℕ → ℕ → Bool
is_escape bytes place = (byte_at bytes place == 92) && is_ascii_punctuation (byte_at bytes (plus place 1))

-- what is resolved so far, the place, and the place from which bytes are taken again
pub record State : Type 0 where
  pub out : List ℕ
  pub place : ℕ
  pub resume : ℕ

-- the machine as its list and places
abbrev pub unescaping : Unescaping → State
unescaping u = record { out = u.out.items; place = u.place; resume = u.resume }

-- the character of a reference is written
unfoldable pub resolved : Reference → State → State
resolved r s = record s { out = s.out ++ encode_utf8 r.character; resume = r.next }

-- the character of a reference is written, or else the byte
abbrev pub resolved_or : ℕ → State → Option Reference → State
resolved_or b s None = record s { out = s.out ++ b ∷ [] }
resolved_or b s (Some r) = resolved r s

-- what is at the place: an escape, a reference or a byte
unfoldable pub unescape_at : List ℕ → ℕ → State → State
unescape_at bytes b s =
    if is_escape bytes s.place then record s { out = s.out ++ byte_at bytes (plus s.place 1) ∷ []; resume = plus s.place 2 }
    else resolved_or b s (reference_at bytes s.place)

-- the next place
abbrev pub stepped : State → State
stepped s = record s { place = plus s.place 1 }

-- the characters of a name are written, or else what is at the place otherwise
abbrev pub named_or : List ℕ → ℕ → State → Option Named → State
named_or bytes b s None = unescape_at bytes b s
named_or bytes b s (Some n) = record s { out = s.out ++ n.characters; resume = n.next }

-- what is at the place, by the names that are known
unfoldable pub unescape_at_in : Names → List ℕ → ℕ → State → State
unescape_at_in names bytes b s = named_or bytes b s (named_in names bytes s.place)

-- one byte further
unfoldable pub unescape_step_in : Names → List ℕ → State → ℕ → State
unescape_step_in names bytes s b = stepped (if nat_le s.resume s.place then unescape_at_in names bytes b s else s)

-- nothing is resolved yet
abbrev pub unescape_start : State
unescape_start = record { out = []; place = 0; resume = 0 }

-- the text with its escapes and references resolved, by the names that are known
unfoldable pub unescaped_in : Names → List ℕ → List ℕ
unescaped_in names bytes = (fold (unescape_step_in names bytes) unescape_start bytes).out
