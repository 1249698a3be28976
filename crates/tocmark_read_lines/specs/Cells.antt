-- The columns of a line (CommonMark 2.2).
use Rattle.std.specs.Prelude.{ℕ, ◌-◌, ◌%◌, Bool, ◌==◌, ◌&&◌, nat_le, if◌then◌else◌, List, [], ◌∷◌, ◌++◌, length, map, drop, reverse, filter, take_while, replicate, slice_get, slice_range}
use Rattle.std.specs.Option.{option_map_or}
use Rattle.tocmark_read_scan.specs.Basic.{plus}
use Rattle.tocmark_read_lines.specs.declared.cell.Cell.{Cell}
use Rattle.tocmark_read_lines.specs.declared.cell.Cursor.{Cursor}

-- a column of the byte at a place
abbrev pub cell : ℕ → ℕ → Cell
cell byte at = record { byte = byte; at = at }

-- the bytes of columns
abbrev pub bytes_of : List Cell → List ℕ
bytes_of cells = map (λ (c : Cell). c.byte) cells

-- the places of columns
abbrev pub places_of : List Cell → List ℕ
places_of cells = map (λ (c : Cell). c.at) cells

-- columns of these bytes: the first ones have these places, the others those from a place on
abbrev pub cells_at : ℕ → List ℕ → List ℕ → List Cell
cells_at at places [] = []
cells_at at [] (b ∷ bs) = cell b at ∷ cells_at (plus at 1) [] bs
cells_at at (p ∷ ps) (b ∷ bs) = cell b p ∷ cells_at (plus at 1) ps bs

-- a tab is spaces up to the next column that is a multiple of four
unfoldable pub filled : List Cell → ℕ → ℕ → List Cell
filled cells b at = if b == 9 then cells ++ replicate (4 - length cells % 4) (cell 32 at) else cells ++ cell b at ∷ []

-- the columns so far, and those of the bytes from a place on
abbrev pub cells_of : List Cell → ℕ → List ℕ → List Cell
cells_of cells at [] = cells
cells_of cells at (b ∷ bs) = cells_of (filled cells b at) (plus at 1) bs

-- the byte of a column; a line feed after the last one
abbrev pub cell_byte : List Cell → ℕ → ℕ
cell_byte cells column = option_map_or (λ (c : Cell). c.byte) (slice_get cells column) 10

-- the place of a column; the end of the line after the last one
abbrev pub cell_place : List Cell → ℕ → ℕ → ℕ
cell_place cells column end = option_map_or (λ (c : Cell). c.at) (slice_get cells column) end

-- the columns from one on that have this byte, one after the other
abbrev pub run_of : List Cell → ℕ → ℕ → ℕ
run_of cells column b = length (take_while (λ (c : Cell). c.byte == b) (drop column cells))

-- the columns from one on that have this byte
abbrev pub count_of : List Cell → ℕ → ℕ → ℕ
count_of cells column b = length (filter (λ (c : Cell). c.byte == b) (drop column cells))

-- the first column from one on that is no space
abbrev pub ink_from : List Cell → ℕ → ℕ
ink_from cells column = plus column (run_of cells column 32)

-- the columns of a range
abbrev pub part : List Cell → ℕ → ℕ → List Cell
part cells from to = if nat_le from to && nat_le to (length cells) then slice_range cells from to else []

-- the columns at the end that have this byte
abbrev pub trailing : List Cell → ℕ → ℕ
trailing cells b = length (take_while (λ (c : Cell). c.byte == b) (reverse cells))

-- the end of a range without the columns of this byte at its end
unfoldable pub trimmed : List Cell → ℕ → ℕ → ℕ → ℕ
trimmed cells from to b = to - trailing (part cells from to) b

-- the front of a line
unfoldable pub first_cursor : List Cell → Cursor
first_cursor cells = record { column = 0; ink = ink_from cells 0 }

-- a cursor at a later column; what is known of the spaces in front is kept
unfoldable pub moved : List Cell → Cursor → ℕ → Cursor
moved cells cursor column = record { column = column; ink = (if nat_le column cursor.ink then cursor.ink else ink_from cells column) }

-- the spaces at a cursor
abbrev pub indent_of : Cursor → ℕ
indent_of cursor = cursor.ink - cursor.column

-- nothing but spaces is left of the line
abbrev pub is_blank_at : List Cell → Cursor → Bool
is_blank_at cells cursor = nat_le (length cells) cursor.ink
