-- Characters and lines (CommonMark 0.31.2, chapter 2), and what is left of a line in a container.
use Rattle.std.specs.Prelude.{ℕ, zero, suc, ◌+◌, ◌-◌, ◌%◌, Bool, true, false, ◌==◌, ◌&&◌, ◌||◌, if◌then◌else◌, List, [], ◌∷◌, ◌++◌, length, drop, reverse, take_while, replicate}
use Rattle.std.specs.List.{fold, flat_map}
use Rattle.tocmark_read_lines.specs.declared.cell.Cell.{Cell}
use Rattle.tocmark_read_lines.specs.Cells.{cells_of}

-- 2.1: a space or a tab
abbrev pub is_blank_byte : ℕ → Bool
is_blank_byte b = (b == 32) || (b == 9)

-- 2.1: a blank line has no characters, or only spaces or tabs
abbrev pub is_blank : List ℕ → Bool
is_blank bytes = length (take_while is_blank_byte bytes) == length bytes

-- 2.1: without the spaces and tabs in front
abbrev pub without_first_blanks : List ℕ → List ℕ
without_first_blanks bytes = drop (length (take_while is_blank_byte bytes)) bytes

-- 2.1: without the spaces and tabs at the end
abbrev pub without_last_blanks : List ℕ → List ℕ
without_last_blanks bytes = reverse (without_first_blanks (reverse bytes))

-- 2.2: tabs have a tab stop of four characters
abbrev pub tab_width : ℕ → ℕ
tab_width column = 4 - column % 4

-- 2.2: the column after a space or a tab
abbrev pub column_after : ℕ → ℕ → ℕ
column_after column b = if b == 9 then column + tab_width column else column + 1

-- What is left of a line in a container: the column at which its bytes begin, and before them the spaces left of a tab.
pub record Part : Type 0 where
  pub column : ℕ
  pub spaces : ℕ
  pub bytes : List ℕ

-- A line without its line ending. A lazy line continues the open paragraph, whatever it looks like (5.1, 5.2).
pub data Line : Type 0 where
  Written : Part → Line
  Lazy : List ℕ → Line

-- 2.2: the column of the first byte that is no space and no tab
abbrev pub ink_column : Part → ℕ
ink_column p = fold column_after p.column (take_while is_blank_byte p.bytes)

-- 2.2: the columns of spaces and tabs in front
abbrev pub indent : Part → ℕ
indent p = p.spaces + (ink_column p - p.column)

-- 2.2: what is left after these
abbrev pub ink : Part → List ℕ
ink p = without_first_blanks p.bytes

-- what is left after so many bytes of the ink
abbrev pub after_ink : ℕ → Part → Part
after_ink count p = record { column = ink_column p + count; spaces = 0; bytes = drop count (ink p) }

-- 2.2: without a column of the space or tab in front; a tab leaves spaces
abbrev pub without_blank : Part → ℕ → List ℕ → Part
without_blank p b bs =
    if b == 32 then record { column = p.column + 1; spaces = 0; bytes = bs }
    else (if b == 9 then record { column = p.column + tab_width p.column; spaces = tab_width p.column - 1; bytes = bs } else p)

-- 2.2: without a column of bytes in front
abbrev pub without_byte : Part → List ℕ → Part
without_byte p [] = p
without_byte p (b ∷ bs) = without_blank p b bs

-- 2.2: without a column of the spaces left of a tab, else of bytes
abbrev pub without_column : Part → ℕ → Part
without_column p zero = without_byte p p.bytes
without_column p (suc spaces) = record p { spaces = spaces }

-- 2.2: without so many columns of spaces and tabs, or as many as are there
abbrev pub without_columns : ℕ → Part → Part
without_columns zero p = p
without_columns (suc count) p = without_columns count (without_column p p.spaces)

-- 2.2: the bytes, with the spaces left of a tab
abbrev pub spelled : Part → List ℕ
spelled p = replicate p.spaces 32 ++ p.bytes

-- the bytes of a line that may be lazy
abbrev pub line_bytes : Line → List ℕ
line_bytes (Written p) = p.bytes
line_bytes (Lazy bytes) = bytes

-- the ink of a line that may be lazy
abbrev pub line_ink : Line → List ℕ
line_ink (Written p) = ink p
line_ink (Lazy bytes) = bytes

-- the same with the spaces and tabs in front
abbrev pub line_spelled : Line → List ℕ
line_spelled (Written p) = spelled p
line_spelled (Lazy bytes) = bytes

-- 2.1: a line is blank
abbrev pub is_blank_line : Line → Bool
is_blank_line l = is_blank (line_bytes l)

-- the columns of bytes, on which the reader's definitions of one line are stated
abbrev pub cells : List ℕ → List Cell
cells bytes = cells_of [] 0 bytes

-- lines, with a line feed after each
abbrev pub with_feeds : List (List ℕ) → List ℕ
with_feeds ls = flat_map (λ b. b ++ 10 ∷ []) ls

-- 2.1 and 2.3: a line feed for each line ending, and U+FFFD for U+0000
abbrev pub plain_byte : Bool → ℕ → List ℕ
plain_byte after_return b =
    if b == 13 then 10 ∷ []
    else (if (b == 10) && after_return then [] else (if b == 0 then 0xef ∷ 0xbf ∷ 0xbd ∷ [] else b ∷ []))

-- 2.1 and 2.3: the same of all bytes
abbrev pub plain_bytes : Bool → List ℕ → List ℕ
plain_bytes after_return [] = []
plain_bytes after_return (b ∷ bs) = plain_byte after_return b ++ plain_bytes (b == 13) bs

-- a line of a document
abbrev pub document_line : List ℕ → Line
document_line bytes = Written (record { column = 0; spaces = 0; bytes = bytes })

-- 2.1: a line ends at a line feed, or at the end of the file
abbrev pub last_line : List ℕ → List Line
last_line [] = []
last_line (b ∷ bs) = document_line (b ∷ bs) ∷ []

-- 2.1: a line feed ends a line, another byte goes on in it
abbrev pub line_ended : (List ℕ → List Line) → List ℕ → ℕ → Bool → List Line
line_ended next line b true = document_line line ∷ next []
line_ended next line b false = next (line ++ b ∷ [])

-- 2.1: the lines of bytes, if these are already in their first one
abbrev pub lines_after : List ℕ → List ℕ → List Line
lines_after line [] = last_line line
lines_after line (b ∷ bs) = line_ended (λ l. lines_after l bs) line b (b == 10)

-- 2.1: the lines of a text
abbrev pub lines_of : List ℕ → List Line
lines_of text = lines_after [] (plain_bytes false text)
