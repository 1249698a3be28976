-- Where a position of the protocol is in a text: a line, and units of a character encoding in that line.
use Rattle.std.specs.Prelude.{ℕ, zero, suc, ◌≡◌, ◌+◌, ◌-◌, ◌==◌, Bool, true, false, ◌&&◌, ◌||◌, List, [], ◌∷◌, length, drop, Option, Some, None, nat_lt, if◌then◌else◌}
use Rattle.std.specs.List.{slice_get, sum_by}
use Rattle.tocmark_lsp_text.specs.declared.positions.Encoding.{Encoding}
use Rattle.tocmark_lsp_text.specs.declared.positions.Encoding.TheVariants.{Utf8, Utf16}
use Rattle.tocmark_lsp_text.specs.declared.positions.Position.{Position}

-- the units of the character that begins with a byte of UTF-8; a byte inside a character begins none
abbrev pub units : Encoding → ℕ → ℕ
units Utf8 b = if nat_lt b 128 then 1 else (if nat_lt b 192 then 0 else (if nat_lt b 224 then 2 else (if nat_lt b 240 then 3 else 4)))
units Utf16 b = if nat_lt b 128 then 1 else (if nat_lt b 192 then 0 else (if nat_lt b 240 then 1 else 2))

-- the units of a text
abbrev pub units_of : Encoding → List ℕ → ℕ
units_of encoding bytes = sum_by (units encoding) bytes

abbrev pub begins_with_feed : List ℕ → Bool
begins_with_feed [] = false
begins_with_feed (b ∷ bytes) = b == 10

-- a line ends after a line feed, and after a carriage return that has none after it
abbrev pub ends_line : ℕ → List ℕ → Bool
ends_line b rest = if b == 13 then (if begins_with_feed rest then false else true) else b == 10

-- where the lines after the first begin, if the bytes are at a place
abbrev pub later_starts : ℕ → List ℕ → List ℕ
later_starts at [] = []
later_starts at (b ∷ bytes) =
    if ends_line b bytes then (at + 1) ∷ later_starts (at + 1) bytes else later_starts (at + 1) bytes

-- where the lines of a text begin
abbrev pub starts : List ℕ → List ℕ
starts text = 0 ∷ later_starts 0 text

-- a line feed or a carriage return: no column is past it
abbrev pub is_end : ℕ → Bool
is_end b = b == 10 || b == 13

-- how many bytes of a line are before a column: the longest front that has no more units
abbrev pub column : Encoding → ℕ → List ℕ → ℕ
column encoding count [] = 0
column encoding count (b ∷ bytes) =
    if is_end b || nat_lt count (units encoding b) then 0 else suc (column encoding (count - units encoding b) bytes)

-- the place of a column in a line that begins at a place; past the last line it is the end of the text
abbrev pub place_in : Encoding → List ℕ → Option ℕ → ℕ → ℕ
place_in encoding text None character = length text
place_in encoding text (Some start) character = start + column encoding character (drop start text)

-- the place of a position, if the lines begin there
abbrev pub place_by : Encoding → List ℕ → List ℕ → Position → ℕ
place_by encoding starts text position = place_in encoding text (slice_get starts position.line) position.character

-- the place of a position in a text
abbrev pub place : Encoding → List ℕ → Position → ℕ
place encoding text position = place_by encoding (starts text) text position

-- a front of a line, of so many bytes: no line ends in it, and no character goes on after it
abbrev pub IsFront : Encoding → ℕ → List ℕ → Type 0
IsFront encoding zero [] = Unit {0}
IsFront encoding zero (b ∷ line) = (is_end b || nat_lt 0 (units encoding b)) ≡ true
IsFront encoding (suc n) [] = ⊥
IsFront encoding (suc n) (b ∷ line) = (is_end b ≡ false) × IsFront encoding n line
