-- What is beside a run of delimiters (CommonMark 2.1 and 6.2).
use Rattle.std.specs.Prelude.{ℕ, Bool, true, false, not, ◌+◌, ◌-◌, ◌*◌, ◌%◌, ◌==◌, ◌&&◌, ◌||◌, nat_lt, nat_le, if◌then◌else◌, List}
use Rattle.unicode.specs.GeneralCategory.{general_category}
use Rattle.unicode.specs.GeneralCategoryGroup.{in_group}
use Rattle.ucd_category.specs.declared.GeneralCategory.{GeneralCategory}
use Rattle.ucd_category.specs.declared.GeneralCategory.TheVariants.{SpaceSeparator}
use Rattle.ucd_category.specs.declared.GeneralCategoryGroup.TheVariants as group
use Rattle.tocmark_read_scan.specs.Basic.{plus, byte_at, character_of}
use Rattle.tocmark_read_scan.specs.declared.side.Side.{Side}
use Rattle.tocmark_read_scan.specs.declared.side.Side.TheVariants.{Space, Punctuation, Other}

-- category Zs
abbrev pub is_space_separator : GeneralCategory → Bool
is_space_separator SpaceSeparator = true
is_space_separator _ = false

-- a character of category Zs, a tab, a line feed, a form feed or a carriage return
unfoldable pub is_space : ℕ → GeneralCategory → Bool
is_space c category = (c == 9) || (c == 10) || (c == 12) || (c == 13) || is_space_separator category

-- white space, punctuation (categories P and S) or another character
unfoldable pub side_of : ℕ → Side
side_of c =
    let category = general_category c in
    if is_space c category then Space
    else (if in_group group.Punctuation category || in_group group.Symbol category then Punctuation else Other)

-- the last six bits of the byte at a place
unfoldable pub continuation_bits : List ℕ → ℕ → ℕ
continuation_bits bytes place = byte_at bytes place % 64

-- the code point of the UTF-8 character that begins at a place
unfoldable pub code_at : List ℕ → ℕ → ℕ
code_at bytes place =
    let first = byte_at bytes place in
    let second = continuation_bits bytes (plus place 1) in
    let third = continuation_bits bytes (plus place 2) in
    let fourth = continuation_bits bytes (plus place 3) in
    if nat_lt first 128 then first
    else (if nat_lt first 224 then first % 32 * 64 + second
    else (if nat_lt first 240 then first % 16 * 4096 + second * 64 + third
    else first % 8 * 262144 + second * 4096 + third * 64 + fourth))

-- a byte of a UTF-8 character after its first
unfoldable pub is_continuation : ℕ → Bool
is_continuation b = nat_le 128 b && nat_lt b 192

-- where the character before a place begins
unfoldable pub start_before : List ℕ → ℕ → ℕ
start_before bytes place =
    if not (is_continuation (byte_at bytes (place - 1))) then place - 1
    else (if not (is_continuation (byte_at bytes (place - 2))) then place - 2
    else (if not (is_continuation (byte_at bytes (place - 3))) then place - 3 else place - 4))

-- the kind of the character at a place
unfoldable pub side_at : List ℕ → ℕ → Side
side_at bytes place = side_of (character_of (code_at bytes place))

-- the kind of the character before a place; the front is white space
unfoldable pub side_before : List ℕ → ℕ → Side
side_before bytes place = if place == 0 then Space else side_at bytes (start_before bytes place)
