-- Tables of plain cells: their text, and the events that it is read as.
use Rattle.std.specs.Prelude.{◌≡◌, ℕ, ◌^◌, ◌<◌, Bool, true, not, ◌==◌, ◌&&◌, List, [], ◌∷◌, ◌++◌, length, map, replicate}
use Rattle.std.specs.List.{list_all}
use Rattle.tocmark_event.specs.declared.event.Alignment.{Alignment}
use Rattle.tocmark_event.specs.declared.event.Alignment.TheVariants as align
use Rattle.tocmark_event.specs.View.{EventView, Start, End, Leaf, Table, TableHead, TableRow, TableCell, Text}
use Rattle.tocmark_event.specs.declared.event.TagEnd.TheVariants as end
use Rattle.tocmark_read_scan.specs.declared.syntax.Syntax.{Syntax}
use Rattle.tocmark_reader.specs.PlainTexts.{IsReadAs}
use Rattle.tocmark_reader.specs.Reading.{reading_of}
use Rattle.tocmark_laws.specs.Extensions.{lined, is_phrase}

-- bytes with so many spaces before and after them
abbrev pub spaced : ℕ → List ℕ → ℕ → List ℕ
spaced before bytes behind = replicate before 32 ++ (bytes ++ replicate behind 32)

-- each cell, and a bar after it
abbrev pub barred : List (List ℕ) → List ℕ
barred [] = []
barred (c ∷ cs) = c ++ 124 ∷ barred cs

-- a row: a bar, and these cells
abbrev pub row_line : List (List ℕ) → List ℕ
row_line cells = 124 ∷ barred cells

-- a dash and more of them, with colons that say how a column is aligned
abbrev pub dashes : Alignment → ℕ → List ℕ
dashes align.None more = 45 ∷ replicate more 45
dashes align.Left more = 58 ∷ 45 ∷ replicate more 45
dashes align.Right more = 45 ∷ (replicate more 45 ++ 58 ∷ [])
dashes align.Center more = 58 ∷ 45 ∷ (replicate more 45 ++ 58 ∷ [])

-- a column of a delimiter row: how it is aligned, how many dashes are after the first, and the spaces round them
pub record PlainColumn : Type 0 where
  pub before : ℕ
  pub alignment : Alignment
  pub more : ℕ
  pub behind : ℕ

-- the bytes of a column
abbrev pub column_bytes : PlainColumn → List ℕ
column_bytes c = spaced c.before (dashes c.alignment c.more) c.behind

-- how a column is aligned
abbrev pub column_alignment : PlainColumn → Alignment
column_alignment c = c.alignment

-- a cell: its phrase, and the spaces round it
pub record PlainCell : Type 0 where
  pub before : ℕ
  pub phrase : List ℕ
  pub behind : ℕ

-- the bytes of a cell
abbrev pub cell_bytes : PlainCell → List ℕ
cell_bytes c = spaced c.before c.phrase c.behind

-- the cells of a row, as bytes
abbrev pub row_bytes : List PlainCell → List (List ℕ)
row_bytes cells = map cell_bytes cells

-- a cell whose phrase has no bar
abbrev pub is_cell : PlainCell → Bool
is_cell c = is_phrase c.phrase && list_all (λ b. not (b == 124)) c.phrase

-- a row of so many cells
abbrev pub is_row : ℕ → List PlainCell → Bool
is_row n cells = (length cells == n) && list_all is_cell cells

-- a header, a delimiter row and rows, each on a line
abbrev pub table_text : List PlainCell → List PlainColumn → List (List PlainCell) → List ℕ
table_text header columns rows = lined (row_line (row_bytes header)) (row_line (map column_bytes columns) ∷ map row_line (map row_bytes rows))

-- the events of cells: a text in each
abbrev pub cells_events : List PlainCell → List EventView
cells_events [] = []
cells_events (c ∷ cs) = Start TableCell ∷ Leaf (Text c.phrase) ∷ End end.TableCell ∷ cells_events cs

-- the events of rows
abbrev pub rows_events : List (List PlainCell) → List EventView
rows_events [] = []
rows_events (r ∷ rs) = Start TableRow ∷ (cells_events r ++ End end.TableRow ∷ rows_events rs)

-- the events of a table
abbrev pub table_events : List PlainCell → List PlainColumn → List (List PlainCell) → List EventView
table_events header columns rows =
    Start (Table (map column_alignment columns)) ∷ Start TableHead
    ∷ (cells_events header ++ End end.TableHead ∷ (rows_events rows ++ End end.Table ∷ []))

-- where a syntax has tables, such a text is a table with these alignments and cells
abbrev pub TablesAreRead : Type 0
TablesAreRead =
    (syntax : Syntax) (header : List PlainCell) (c : PlainColumn) (cs : List PlainColumn) (rows : List (List PlainCell)) →
    syntax.tables ≡ true → list_all (is_row (length (c ∷ cs))) (header ∷ rows) ≡ true → length (table_text header (c ∷ cs) rows) < 2 ^ 64 →
    IsReadAs (reading_of syntax (table_text header (c ∷ cs) rows)) (table_events header (c ∷ cs) rows)
