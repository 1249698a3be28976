-- What a line begins with.
use Rattle.std.specs.Prelude.{ℕ, ◌+◌, ◌-◌, ◌*◌, ◌^◌, min, Bool, not, ◌==◌, ◌&&◌, ◌||◌, nat_lt, nat_le, if◌then◌else◌, List, length, drop, reverse, take_while, Option, Some, None}
use Rattle.std.specs.List.{fold}
use Rattle.std.specs.Option.{option_map, option_or}
use Rattle.std.specs.Char.{is_ascii_digit}
use Rattle.tocmark_event.specs.declared.event.HeadingLevel.{HeadingLevel}
use Rattle.tocmark_event.specs.declared.event.HeadingLevel.TheVariants as level
use Rattle.tocmark_read_scan.specs.Basic.{plus, bytes_between}
use Rattle.tocmark_read_lines.specs.Cells.{bytes_of, cell_byte, run_of, count_of, ink_from, trailing, trimmed, indent_of}
use Rattle.tocmark_read_lines.specs.declared.cell.Cell.{Cell}
use Rattle.tocmark_read_lines.specs.declared.cell.Cursor.{Cursor}
use Rattle.tocmark_read_lines.specs.declared.beginnings.Heading.{Heading}
use Rattle.tocmark_read_lines.specs.declared.beginnings.Fence.{Fence}
use Rattle.tocmark_read_lines.specs.declared.beginnings.Tail.{Tail}
use Rattle.tocmark_read_lines.specs.declared.beginnings.Marker.{Marker}

-- the level of a heading with so many marks
unfoldable pub level_of : ℕ → Option HeadingLevel
level_of n =
    if n == 1 then Some level.H1
    else (if n == 2 then Some level.H2
    else (if n == 3 then Some level.H3
    else (if n == 4 then Some level.H4
    else (if n == 5 then Some level.H5
    else (if n == 6 then Some level.H6 else None)))))

-- a space or the end of the line
unfoldable pub is_behind : List Cell → ℕ → Bool
is_behind cells column = nat_le (length cells) column || (cell_byte cells column == 32)

-- the text of an ATX heading ends before spaces, and before `#` with a space before them (CommonMark 4.2)
unfoldable pub heading_end_before : List Cell → ℕ → ℕ → ℕ
heading_end_before cells from limit =
    let whole = trimmed cells from limit 32 in
    let open_end = trimmed cells from whole 35 in
    if nat_le open_end from || (cell_byte cells (open_end - 1) == 32) then trimmed cells from open_end 32 else whole

-- a heading whose text begins at a column
abbrev pub heading_from : List Cell → ℕ → HeadingLevel → Heading
heading_from cells from l = record { level = l; from = from; to = heading_end_before cells from (length cells) }

-- one to six `#` and a space or the end of the line (CommonMark 4.2)
unfoldable pub heading_at : List Cell → ℕ → Option Heading
heading_at cells column =
    let behind = plus column (run_of cells column 35) in
    if not (is_behind cells behind) then None
    else option_map (heading_from cells (ink_from cells behind)) (level_of (behind - column))

-- a backtick or a tilde
unfoldable pub is_fence_byte : ℕ → Bool
is_fence_byte b = (b == 96) || (b == 126)

-- at least three backticks or tildes, and after backticks none (CommonMark 4.5)
unfoldable pub fence_at : List Cell → Cursor → Option Fence
fence_at cells cursor =
    let b = cell_byte cells cursor.ink in
    let count = run_of cells cursor.ink b in
    let more = count_of cells (plus cursor.ink count) 96 in
    if is_fence_byte b && nat_le 3 count && not ((b == 96) && nat_lt 0 more)
    then Some (record { byte = b; count = count; indent = indent_of cursor })
    else None

-- at least as many of the same byte, and nothing else (CommonMark 4.5)
unfoldable pub closes_fence : List Cell → Cursor → Fence → Bool
closes_fence cells cursor fence =
    let count = run_of cells cursor.ink fence.byte in
    nat_le (indent_of cursor) 3 && nat_le fence.count count && nat_le (length cells) (ink_from cells (plus cursor.ink count))

-- how many columns at the end of a line have this byte or a space
abbrev pub tail_length : List Cell → ℕ → ℕ
tail_length cells b = length (take_while (λ (c : Cell). (c.byte == 32) || (c.byte == b)) (reverse cells))

-- the last byte of a line that is no space, and the columns at its end that have this byte or a space
unfoldable pub tail_of : List Cell → Tail
tail_of cells =
    let b = cell_byte cells (length cells - trailing cells 32 - 1) in
    record { byte = b; from = length cells - tail_length cells b }

-- `*`, `-` or `_`
unfoldable pub is_rule_byte : ℕ → Bool
is_rule_byte b = (b == 42) || (b == 45) || (b == 95)

-- at least three of one of `*`, `-`, `_`, and nothing else but spaces (CommonMark 4.1)
unfoldable pub is_rule : List Cell → Tail → ℕ → Bool
is_rule cells tail column =
    let b = cell_byte cells column in
    is_rule_byte b && (b == tail.byte) && nat_le tail.from column && nat_le 3 (count_of cells column b)

-- `=` or `-`
unfoldable pub is_underline_byte : ℕ → Bool
is_underline_byte b = (b == 61) || (b == 45)

-- `=` alone or `-` alone (CommonMark 4.3)
unfoldable pub underline_at : List Cell → ℕ → Option HeadingLevel
underline_at cells column =
    let b = cell_byte cells column in
    let behind = plus column (run_of cells column b) in
    if not (is_underline_byte b && nat_le (length cells) (ink_from cells behind)) then None
    else (if b == 61 then Some level.H1 else Some level.H2)

-- the digits from a column on
abbrev pub digit_count : List Cell → ℕ → ℕ
digit_count cells column = length (take_while (λ (c : Cell). is_ascii_digit c.byte) (drop column cells))

-- one more digit; a number stops at the greatest of 64 bits
unfoldable pub number_step : ℕ → ℕ → ℕ
number_step n digit = min (min (n * 10) (2 ^ 64 - 1) + (digit - 48)) (2 ^ 64 - 1)

-- the number that digits write
abbrev pub number_of : List ℕ → ℕ
number_of digits = fold number_step 0 digits

-- `-`, `+` or `*` (CommonMark 5.2)
unfoldable pub bullet_at : List Cell → ℕ → Option Marker
bullet_at cells column =
    let b = cell_byte cells column in
    if ((b == 45) || (b == 43) || (b == 42)) && is_behind cells (plus column 1)
    then Some (record { sort = b; number = None; length = 1 })
    else None

-- one to nine digits, and `.` or `)` (CommonMark 5.2)
unfoldable pub ordered_at : List Cell → ℕ → Option Marker
ordered_at cells column =
    let count = digit_count cells column in
    let last = plus column count in
    let sort = cell_byte cells last in
    if nat_le 1 count && nat_le count 9 && ((sort == 46) || (sort == 41)) && is_behind cells (plus last 1)
    then Some (record { sort = sort; number = Some (number_of (bytes_between (bytes_of cells) column last)); length = plus count 1 })
    else None

-- the marker of an item at a column
unfoldable pub marker_at : List Cell → ℕ → Option Marker
marker_at cells column = option_or (bullet_at cells column) (ordered_at cells column)
