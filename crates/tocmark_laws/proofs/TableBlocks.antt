-- The blocks of a table of plain cells.
use Rattle.std.proofs.Common.{◌≡◌, ℕ, zero, suc, ◌+◌, ◌-◌, ◌^◌, ◌<◌, ◌≤◌, Bool, true, false, ◌==◌, if◌then◌else◌, nat_le, List, [], ◌∷◌, ◌++◌, length, map, replicate, refl, ap, sym, ◌∙◌, arith, append_assoc, append-nil, length-append, Some, None}
use Rattle.std.proofs.lemmas.Bool.Decides.{nat_tests}
use Rattle.std.proofs.lemmas.List.{length-map, length-replicate}
use Rattle.std.proofs.lemmas.List.Sums.{take_while-cons}
use Rattle.std.specs.List.{AllByRecursion, fold, list_all, take_while}
use Rattle.tocmark_read_scan.specs.Basic.{plus, bytes_between}
use Rattle.tocmark_read_scan.specs.declared.syntax.Syntax.{Syntax}
use Rattle.tocmark_read_scan.proofs.PlainPieces.{piece_between}
use Rattle.tocmark_read_lines.specs.Cells.{cells_of, cell, cell_byte, ink_from, run_of}
use Rattle.tocmark_read_lines.specs.Containers.{raised_at}
use Rattle.tocmark_read_lines.specs.Html.{html_kind}
use Rattle.tocmark_read_lines.specs.Lines.{lines_of, line}
use Rattle.tocmark_read_lines.specs.Marks.{tail_of}
use Rattle.tocmark_read_lines.specs.Footnotes.{note_at}
use Rattle.tocmark_read_lines.specs.declared.cell.Cell.{Cell}
use Rattle.tocmark_read_lines.specs.declared.line.Line.{Line}
use Rattle.tocmark_read_page.specs.Leaves.{is_paragraph, is_table}
use Rattle.tocmark_read_page.specs.Pages.{State, first_page, closed_to, leaf_closed, table_finished, ended, times}
use Rattle.tocmark_read_page.specs.declared.leaf.Leaf.{Leaf}
use Rattle.tocmark_read_page.specs.declared.leaf.Leaf.TheVariants as leaf
use Rattle.tocmark_read_page.specs.declared.leaf.Table.{Table}
use Rattle.tocmark_read_page.specs.declared.line_start.Known.{Known}
use Rattle.tocmark_read_page.specs.declared.page.Block.{Block}
use Rattle.tocmark_read_page.specs.declared.page.BlockKind.TheVariants as kind
use Rattle.tocmark_read_page.specs.declared.page.HeaderLine.TheVariants.{Always, Never}
use Rattle.tocmark_read_constructs.specs.Metadata.{known_of}
use Rattle.tocmark_read_constructs.specs.Tables.{is_delimiter_byte, is_delimiter_row, header_columns, alignments_of, header_of, row_of, ink_of, cell_count, ends_table, begins_named_html, row_turn, lengthened, row_taken, row_put, may_delimit, may_have_header, fits_columns, header_settled, delimited, started_if, delimiters_taken, table_started, is_sole_line, paragraph_turned}
use Rattle.tocmark_read_blocks.specs.Blocks.{BlocksView, blocks_in, page_in, leaf_started_in, tabled_in, tabled_as, passed_in, turn_in, turn_of, touched, taken_at_in, turn_taken_in, cells_taken_in, line_taken_in}
use Rattle.tocmark_read_blocks.specs.Containers.{goes_directly}
use Rattle.tocmark_read_blocks.specs.Leaves.{leaf_turn}
use Rattle.tocmark_read_blocks.specs.declared.leaf.Turn.TheVariants as turn
use Rattle.tocmark_read_blocks.proofs.PlainLines.{IsWithin, cells_within, numbered}
use Rattle.tocmark_read_blocks.proofs.PlainStarts.{IsQuiet, quiet_begins_nothing}
use Rattle.tocmark_read_blocks.proofs.PlainSteps.{BeginsNothing, front, line_piece}
use Rattle.tocmark_read_blocks.proofs.PlainTexts.{line_list}
use Rattle.tocmark_laws.specs.Extensions.{lined}
use Rattle.tocmark_laws.specs.PlainTables.{PlainColumn, barred, row_line, column_bytes, column_alignment}
use Rattle.tocmark_laws.proofs.ExtensionBlocks.{never, here, passes, header_behind, paragraph, IsFreeText, line_free, line_begins}
use Rattle.tocmark_laws.proofs.ExtensionParagraphs.{free_note, free_html}
use Rattle.tocmark_laws.proofs.FrontMatterBlocks.{IsLineText, lines_split}
use Rattle.tocmark_laws.proofs.TableRows.{AreInside, row_part, cell_blocks, header_page, row_is_put, cells_counted, header_counted, alignments_read, no_delimiters, columns_delimit}

-- ---- rows as lines

-- what is known of a row: its cells, and that its first one begins with no mark of a delimiter row
pub record IsRow (cells : List (List ℕ)) : Type 0 where
  pub inside : AllByRecursion AreInside cells
  pub within : AllByRecursion IsWithin (row_line cells)
  pub spaces : ℕ
  pub first : ℕ
  pub more : List ℕ
  pub shape : barred cells ≡ replicate spaces 32 ++ first ∷ more
  pub mark : is_delimiter_byte first ≡ false
  pub ink : (first == 32) ≡ false

bar_quiet : IsQuiet 124
bar_quiet = record { space = refl; greater = refl; less = refl; star = refl; minus = refl; plus = refl; equals = refl; underscore = refl; hash = refl; backtick = refl; tilde = refl; digit = refl }

not_all : (f : ℕ → Bool) (xs : List ℕ) (b : ℕ) (ys : List ℕ) → f b ≡ false → list_all f (xs ++ b ∷ ys) ≡ false
not_all f [] b ys h = rw h refl
not_all f (x ∷ xs) b ys h = rw (not_all f xs b ys h) (never (f x))

row_no_delimiters : (cells : List (List ℕ)) → IsRow cells → is_delimiter_row (row_line cells) ≡ false
row_no_delimiters cells h =
    no_delimiters (row_line cells)
    (ap (λ (xs : List ℕ). list_all is_delimiter_byte (124 ∷ xs)) h.shape ∙ not_all is_delimiter_byte (124 ∷ replicate h.spaces 32) h.first h.more h.mark)

row_free : (cells : List (List ℕ)) → IsRow cells → IsFreeText (row_line cells)
row_free cells h = record {
  within = h.within;
  begins = λ at. record {
    nothing = quiet_begins_nothing at 124 (barred cells) bar_quiet;
    note = free_note at 124 (barred cells) refl;
    colon = refl;
    row = row_no_delimiters cells h;
    html = free_html 124 (barred cells) refl;
  };
  first = 124;
  rest = barred cells;
  shape = refl;
  dash = refl;
  cross = refl;
}

-- ---- the header

is_header : (known : Known) (at : ℕ) (bs : List ℕ) → known.syntax.tables ≡ true → header_behind known.syntax.tables (numbered at (124 ∷ bs)) Never ≡ Always
unfolding header_of
is_header known at bs has = ap (λ t. header_behind t (numbered at (124 ∷ bs)) Never) has

header_taken : (known : Known) (text rest : List ℕ) (cells : List (List ℕ)) → known.syntax.tables ≡ true → IsRow cells → text ≡ row_line cells ++ 10 ∷ rest → length (row_line cells) + 1 < 2 ^ 64 → line_taken_in known text first_page (line 0 0 (0 + length (row_line cells)) (0 + length (row_line cells) + 1)) ≡ paragraph Always (line_piece (line 0 0 (0 + length (row_line cells)) (0 + length (row_line cells) + 1)) ∷ []) 0 (0 + length (row_line cells)) 1
header_taken known text rest cells has h t fits =
    let end : ℕ = 0 + length (row_line cells) in
    let l : Line = line 0 0 end (end + 1) in
    line_begins known text (numbered 0 (row_line cells)) l (line_free text [] (row_line cells) (10 ∷ rest) 0 end (end + 1) 1 t refl refl (row_free cells h) (omega (arith, fits)) (omega arith))
    ∙ ap (λ k. paragraph k (line_piece l ∷ []) 0 end 1) (is_header known 0 (barred cells) has)

-- ---- the delimiter row

may_be : (text : List ℕ) (cells : List Cell) (l : Line) (s : State) → nat_le (length cells) 0 ≡ false → may_have_header s ≡ true → is_delimiter_row (row_of text cells l front) ≡ true → may_delimit text cells l front true s ≡ true
unfolding may_delimit
may_be text cells l s some header row = rw (some, header, row) refl

taken_if : (text : List ℕ) (cells : List Cell) (l : Line) (s : State) → may_delimit text cells l front true s ≡ true → delimiters_taken text cells l front true s ≡ delimited text l (ink_of cells l front) s
unfolding delimiters_taken
taken_if text cells l s h = rw h refl

delimited_if : (text : List ℕ) (l : Line) (start n : ℕ) (s : State) → length (alignments_of (bytes_between text start l.end)) ≡ n → fits_columns text n s ≡ true → header_settled text s ≡ (s, true) → delimited text l start s ≡ (table_started text l (kind.Table start l.end) n s, true)
unfolding delimited
delimited_if text l start n s columns fits header =
    ap (λ m. if fits_columns text m s then started_if text l (kind.Table start l.end) m (header_settled text s) else (s, false)) columns ∙ rw (fits, header) refl

abbrev pub open_table : ℕ → Leaf
open_table n = leaf.Table (record { block = 0; columns = n; filled = 0 })

-- the block of a table, whose delimiter row has this range
abbrev pub table_block : ℕ → ℕ → ℕ → Block
table_block from to end = record { depth = 0; kind = kind.Table from to; start = 0; end = end; first = 0; last = 0; loose = false; list = None; task = None }

-- the header alone is open
abbrev header_alone : ℕ → State
header_alone end = paragraph Always (line_piece (line 0 0 end (end + 1)) ∷ []) 0 end 1

header_known : (end : ℕ) → may_have_header (header_alone end) ≡ true
unfolding may_have_header
header_known end = refl

settled_header : (text : List ℕ) (end : ℕ) → header_settled text (header_alone end) ≡ (header_alone end, true)
unfolding header_settled
settled_header text end = refl

columns_fit : (text : List ℕ) (n end : ℕ) → header_columns text 0 end ≡ n → fits_columns text n (header_alone end) ≡ true
unfolding fits_columns
columns_fit text n end h = let same : (n == n) ≡ true = grind (arith, nat_tests) in ap (λ m. m == n) h ∙ same

started_table : (text : List ℕ) (l : Line) (from to n end : ℕ) → table_started text l (kind.Table from to) n (header_alone end) ≡ row_put text kind.TableHead n 0 end (header_page (open_table n) l.end l.number (table_block from to 0 ∷ []))
unfolding table_started is_sole_line paragraph_turned
started_table text l from to n end = refl

directly_there : (end : ℕ) → goes_directly 0 (header_alone end) ≡ true
unfolding goes_directly is_paragraph
directly_there end = refl

delimiters_passed : (known : Known) (text : List ℕ) (cells : List Cell) (l : Line) (s p : State) → known.syntax.tables ≡ true → goes_directly 0 s ≡ true → delimiters_taken text cells l front true s ≡ (p, true) → passed_in known text cells l here s ≡ p
unfolding passed_in tabled_in
delimiters_passed known text cells l s p has direct taken =
    ap (λ t. if t then tabled_in known text cells l here s else leaf_started_in known text cells l here s) has
    ∙ ap (λ d. tabled_as known text cells l here (delimiters_taken text cells l front d s)) direct
    ∙ ap (tabled_as known text cells l here) taken

-- a line whose first byte is a bar, as columns
row_columns : (text pre bs rest : List ℕ) (start end : ℕ) → text ≡ pre ++ ((124 ∷ bs) ++ rest) → start ≡ length pre → end ≡ start + length (124 ∷ bs) → AllByRecursion IsWithin (124 ∷ bs) → end < 2 ^ 64 → cells_of [] start (bytes_between text start end) ≡ numbered start (124 ∷ bs)
row_columns text pre bs rest start end t at to within fits =
    ap (cells_of [] start) (piece_between text pre (124 ∷ bs) rest start end t at (to ∙ ap (λ n. n + length (124 ∷ bs)) at))
    ∙ cells_within start (124 ∷ bs) within (omega (arith, to, fits))

delimiters_read : (known : Known) (text rest : List ℕ) (header : List (List ℕ)) (c : PlainColumn) (cs : List PlainColumn) (start end next : ℕ) → known.syntax.tables ≡ true → IsRow header → length header ≡ length (c ∷ cs) → AllByRecursion IsWithin (row_line (map column_bytes (c ∷ cs))) → text ≡ (row_line header ++ 10 ∷ []) ++ (row_line (map column_bytes (c ∷ cs)) ++ rest) → start ≡ length (row_line header) + 1 → end ≡ start + length (row_line (map column_bytes (c ∷ cs))) → end < 2 ^ 64
    → line_taken_in known text (header_alone (0 + length (row_line header))) (line 1 start end next) ≡ header_page (open_table (length (c ∷ cs))) end 2 (table_block start end 0 ∷ row_part 1 kind.TableHead 0 (0 + length (row_line header)) ∷ cell_blocks 1 header)
unfolding line_taken_in cells_taken_in touched leaf_turn is_table
delimiters_read known text rest header c cs start end next has h same within t at to fits =
    let row : List ℕ = row_line (map column_bytes (c ∷ cs)) in
    let bs : List ℕ = barred (map column_bytes (c ∷ cs)) in
    let e : ℕ = 0 + length (row_line header) in
    let s : State = header_alone e in
    let l : Line = line 1 start end next in
    let n : ℕ = length (c ∷ cs) in
    let cells : List Cell = numbered start row in
    let before : List ℕ = row_line header ++ 10 ∷ [] in
    let front_is : start ≡ length before = at ∙ sym (length-append (row_line header) (10 ∷ [])) in
    let begins : BeginsNothing row cells = quiet_begins_nothing start 124 bs bar_quiet in
    let stands : bytes_between text start end ≡ row = piece_between text before row rest start end t front_is (to ∙ ap (λ m. m + length row) front_is) in
    let first : text ≡ [] ++ (row_line header ++ 10 ∷ (row ++ rest)) = t ∙ append_assoc (row_line header) (10 ∷ []) (row ++ rest) in
    let zero_end : e ≡ 0 + length (row_line header) = refl in
    let counted : header_columns text 0 e ≡ n = header_counted text [] (10 ∷ (row ++ rest)) 0 e header first refl zero_end h.inside (omega (arith, at, to, fits)) ∙ same in
    let columns : length (alignments_of (bytes_between text start end)) ≡ n =
    ap (λ (xs : List ℕ). length (alignments_of xs)) stands ∙ ap length (alignments_read (c ∷ cs)) ∙ length-map (c ∷ cs) column_alignment
    in
    let may : may_delimit text cells l front true s ≡ true = may_be text cells l s begins.some (header_known e) (ap is_delimiter_row stands ∙ columns_delimit c cs) in
    let page : State = header_page (open_table n) end 2 (table_block start end 0 ∷ []) in
    let taken : delimiters_taken text cells l front true s ≡ (row_put text kind.TableHead n 0 e page, true) =
    taken_if text cells l s may
    ∙ delimited_if text l start n s columns (columns_fit text n e counted) (settled_header text e)
    ∙ ap (λ (p : State). (p, true)) (started_table text l start end n e)
    in
    ap (λ x. cells_taken_in known text x l s) (row_columns text before bs rest start end t front_is to within fits)
    ∙ ap (λ x. taken_at_in known text cells l (record { cursor = x; depth = 0 }) s) begins.ink
    ∙ ap (λ x. turn_taken_in known x text cells l here s) (passes known text cells l s refl refl refl)
    ∙ delimiters_passed known text cells l s (row_put text kind.TableHead n 0 e page) has (directly_there e) taken
    ∙ ap (λ m. row_put text kind.TableHead m 0 e page) (sym same)
    ∙ row_is_put text [] (10 ∷ (row ++ rest)) kind.TableHead (open_table n) end 2 0 e header (table_block start end 0 ∷ []) first refl zero_end h.inside (omega (arith, at, to, fits))

-- ---- further rows

spaces_run : (k at b : ℕ) (more : List ℕ) → (b == 32) ≡ false → length (take_while (λ (c : Cell). c.byte == 32) (numbered at (replicate k 32 ++ b ∷ more))) ≡ k
spaces_run zero at b more h = ap length (take_while-cons (λ (c : Cell). c.byte == 32) (cell b at) (numbered (at + 1) more)) ∙ rw h refl
spaces_run (suc k) at b more h = ap length (take_while-cons (λ (c : Cell). c.byte == 32) (cell 32 at) (numbered (at + 1) (replicate k 32 ++ b ∷ more))) ∙ ap suc (spaces_run k (at + 1) b more h)

numbered_length : (at : ℕ) (xs : List ℕ) → length (numbered at xs) ≡ length xs
numbered_length at [] = refl
numbered_length at (x ∷ xs) = ap suc (numbered_length (at + 1) xs)

has_ink : (at k b : ℕ) (bs more : List ℕ) → bs ≡ replicate k 32 ++ b ∷ more → (b == 32) ≡ false → nat_le (length (numbered at (124 ∷ bs))) (ink_from (numbered at (124 ∷ bs)) (plus 0 1)) ≡ false
has_ink at k b bs more e h =
    let run : run_of (numbered at (124 ∷ bs)) (plus 0 1) 32 ≡ k = ap (λ (xs : List ℕ). length (take_while (λ (c : Cell). c.byte == 32) (numbered (at + 1) xs))) e ∙ spaces_run k (at + 1) b more h in
    let wide : length bs ≡ length {A = ℕ} (replicate k 32) + suc (length more) = ap length e ∙ length-append (replicate k 32) (b ∷ more) in
    let spaces : length {A = ℕ} (replicate k 32) ≡ k = length-replicate k 32 in
    let all : length (numbered at (124 ∷ bs)) ≡ suc (length bs) = ap suc (numbered_length (at + 1) bs) in
    let short : ink_from (numbered at (124 ∷ bs)) (plus 0 1) ≤ 1 + k = omega (arith, run) in
    let most : ink_from (numbered at (124 ∷ bs)) (plus 0 1) < length (numbered at (124 ∷ bs)) = omega (arith, short, all, wide, spaces) in
    grind (arith, nat_tests, most)

goes_on : (cells : List Cell) (row : List ℕ) → BeginsNothing row cells → html_kind row ≡ None → nat_le (length cells) (ink_from cells (plus 0 1)) ≡ false → ends_table cells (tail_of cells) front row ≡ false
unfolding ends_table begins_named_html
goes_on cells row h html ink = rw (h.quote, h.heading, h.fence, h.rule, h.marker, html, ink, never (cell_byte cells 0 == 124)) refl

row_turns : (text : List ℕ) (cells : List Cell) (l : Line) (n : ℕ) → nat_le (length cells) 0 ≡ false → ends_table cells (tail_of cells) front (row_of text cells l front) ≡ false → cell_count text (ink_of cells l front) l.end ≡ n → row_turn text cells l front (record { block = 0; columns = n; filled = 0 }) ≡ Some (record { block = 0; columns = n; filled = 0 })
unfolding row_turn lengthened
row_turns text cells l n some goes count = let same : n - n ≡ 0 = omega arith in rw (some, goes, count, same) refl

table_turn : (known : Known) (text : List ℕ) (cells : List Cell) (l : Line) (e number n : ℕ) (blocks : List Block) (t : Table) → note_at cells 0 ≡ None → row_turn text cells l front (record { block = 0; columns = n; filled = 0 }) ≡ Some t → turn_in known text cells l here (header_page (open_table n) e number blocks) ≡ turn.Row t
unfolding turn_in turn_of leaf_turn is_table
table_turn known text cells l e number n blocks t note row = rw (note, never known.syntax.footnotes, row) refl

row_comes : (text : List ℕ) (at : ℕ) (bs : List ℕ) (l : Line) (e number n : ℕ) (blocks : List Block) → l.start ≡ at → row_taken text (numbered at (124 ∷ bs)) l front (record { block = 0; columns = n; filled = 0 }) (header_page (open_table n) e number blocks) ≡ row_put text kind.TableRow n at l.end (header_page (open_table n) l.end l.number blocks)
unfolding row_taken
row_comes text at bs l e number n blocks same = refl

row_read : (known : Known) (text pre rest : List ℕ) (cells : List (List ℕ)) (n e number before start end next : ℕ) (blocks : List Block) → IsRow cells → length cells ≡ n → text ≡ pre ++ (row_line cells ++ rest) → start ≡ length pre → end ≡ start + length (row_line cells) → end < 2 ^ 64
    → line_taken_in known text (header_page (open_table n) e number blocks) (record { number = before; start = start; end = end; next = next }) ≡ header_page (open_table n) end before (blocks ++ row_part 1 kind.TableRow start end ∷ cell_blocks (start + 1) cells)
unfolding line_taken_in cells_taken_in touched
row_read known text pre rest cells n e number before start end next blocks h same t at to fits =
    let row : List ℕ = row_line cells in
    let bs : List ℕ = barred cells in
    let s : State = header_page (open_table n) e number blocks in
    let l : Line = record { number = before; start = start; end = end; next = next } in
    let columns : List Cell = numbered start row in
    let table : Table = record { block = 0; columns = n; filled = 0 } in
    let stop : end ≡ length pre + length row = to ∙ ap (λ m. m + length row) at in
    let begins : BeginsNothing row columns = quiet_begins_nothing start 124 bs bar_quiet in
    let stands : bytes_between text start end ≡ row = piece_between text pre row rest start end t at stop in
    let goes : ends_table columns (tail_of columns) front (row_of text columns l front) ≡ false =
    ap (ends_table columns (tail_of columns) front) stands ∙ goes_on columns row begins (free_html 124 bs refl) (has_ink start h.spaces h.first bs h.more h.shape h.ink)
    in
    let count : cell_count text start end ≡ n = cells_counted text pre rest start end cells t at stop h.inside fits ∙ same in
    let turned : turn_in known text columns l here s ≡ turn.Row table = table_turn known text columns l e number n blocks table (free_note start 124 bs refl) (row_turns text columns l n begins.some goes count) in
    ap (λ x. cells_taken_in known text x l s) (row_columns text pre bs rest start end t at to h.within fits)
    ∙ ap (λ x. taken_at_in known text columns l (record { cursor = x; depth = 0 }) s) begins.ink
    ∙ ap (λ x. turn_taken_in known x text columns l here s) turned
    ∙ row_comes text start bs l e number n blocks refl
    ∙ ap (λ m. row_put text kind.TableRow m start end (header_page (open_table n) end before blocks)) (sym same)
    ∙ row_is_put text pre rest kind.TableRow (open_table n) end before start end cells blocks t at stop h.inside fits

-- the blocks of rows from a place on
abbrev pub rows_blocks : ℕ → List (List (List ℕ)) → List Block
rows_blocks start [] = []
rows_blocks start (r ∷ rs) = row_part 1 kind.TableRow start (start + length (row_line r)) ∷ (cell_blocks (start + 1) r ++ rows_blocks (start + length (row_line r) + 1) rs)

-- rows with so many cells each
abbrev pub AreRows : ℕ → List (List (List ℕ)) → Type 0
AreRows n rs = AllByRecursion (λ r. IsRow r × (length r ≡ n)) rs

rows_read : (known : Known) (text pre : List ℕ) (n e number before start : ℕ) (r : List (List ℕ)) (rs : List (List (List ℕ))) (blocks : List Block) → AreRows n (r ∷ rs) → text ≡ pre ++ lined (row_line r) (map row_line rs) → start ≡ length pre → length text < 2 ^ 64
    → (last : ℕ) × (fold (line_taken_in known text) (header_page (open_table n) e number blocks) (line_list before start (row_line r) (map row_line rs)) ≡ header_page (open_table n) (length text) last (blocks ++ rows_blocks start (r ∷ rs)))
rows_read known text pre n e number before start r [] blocks h t at fits =
    let row : List ℕ = row_line r in
    let end : ℕ = start + length row in
    let stands : text ≡ pre ++ (row ++ []) = t ∙ ap (λ (xs : List ℕ). pre ++ xs) (sym (append-nil row)) in
    let all : length text ≡ end = ap length t ∙ length-append pre row ∙ ap (λ m. m + length row) (sym at) in (
      plus before 1,
      row_read known text pre [] r n e number (plus before 1) start end end blocks (h.0.0) (h.0.1) stands at refl (let q : end < 2 ^ 64 = omega (arith, all, fits) in q)
          ∙ ap (λ m. header_page (open_table n) m (plus before 1) (blocks ++ row_part 1 kind.TableRow start end ∷ cell_blocks (start + 1) r)) (sym all)
          ∙ ap (λ (bs : List Block). header_page (open_table n) (length text) (plus before 1) (blocks ++ row_part 1 kind.TableRow start end ∷ bs)) (sym (append-nil (cell_blocks (start + 1) r))),
    )
rows_read known text pre n e number before start r (m ∷ ms) blocks h t at fits =
    let row : List ℕ = row_line r in
    let more : List ℕ = lined (row_line m) (map row_line ms) in
    let end : ℕ = start + length row in
    let here : List Block = row_part 1 kind.TableRow start end ∷ cell_blocks (start + 1) r in
    let all : length text ≡ start + (length row + suc (length more)) = ap length t ∙ length-append pre (row ++ 10 ∷ more) ∙ ap (λ k. length pre + k) (length-append row (10 ∷ more)) ∙ ap (λ k. k + (length row + suc (length more))) (sym at) in
    let there : text ≡ (pre ++ (row ++ 10 ∷ [])) ++ more = t ∙ ap (λ (xs : List ℕ). pre ++ xs) (sym (append_assoc row (10 ∷ []) more)) ∙ sym (append_assoc pre (row ++ 10 ∷ []) more) in
    let longer : end + 1 ≡ length (pre ++ (row ++ 10 ∷ [])) = ap (λ k. k + length row + 1) at ∙ (let q : length pre + length row + 1 ≡ length (pre ++ (row ++ 10 ∷ [])) = grind (arith, length-append) in q) in
    let next = rows_read known text (pre ++ (row ++ 10 ∷ [])) n end (plus before 1) (before + 1) (end + 1) m ms (blocks ++ here) (h.1) there longer fits in (
      next.0,
      ap (λ (s : State). fold (line_taken_in known text) s (line_list (before + 1) (end + 1) (row_line m) (map row_line ms))) (row_read known text pre (10 ∷ more) r n e number (plus before 1) start end (end + 1) blocks (h.0.0) (h.0.1) t at refl (let q : end < 2 ^ 64 = omega (arith, all, fits) in q))
          ∙ next.1
          ∙ ap (header_page (open_table n) (length text) (next.0)) (append_assoc blocks here (rows_blocks (end + 1) (m ∷ ms))),
    )

-- ---- the whole table

abbrev pub view : State → BlocksView
view s = record { blocks = s.blocks; pieces = s.pieces; definitions = s.definitions }

table_ends : (text : List ℕ) (n e number from to : ℕ) (blocks : List Block) → view (closed_to text 0 (header_page (open_table n) e number (table_block from to 0 ∷ blocks))) ≡ record { blocks = table_block from to e ∷ blocks; pieces = []; definitions = [] }
unfolding closed_to leaf_closed table_finished raised_at ended times
table_ends text n e number from to blocks = refl

module _ (header : List (List ℕ)) (c : PlainColumn) (cs : List PlainColumn) (rows : List (List (List ℕ))) where
  abbrev n : ℕ
  n = length (c ∷ cs)

  abbrev head : List ℕ
  head = row_line header

  abbrev delimiters : List ℕ
  delimiters = row_line (map column_bytes (c ∷ cs))

  abbrev pub bytes : List ℕ
  bytes = lined head (delimiters ∷ map row_line rows)

  -- where the delimiter row begins, and the rows after it
  abbrev pub second : ℕ
  second = 0 + length head + 1

  abbrev pub third : ℕ
  third = second + length delimiters

  -- the blocks of a table
  abbrev pub head_blocks : List Block
  head_blocks = row_part 1 kind.TableHead 0 (0 + length head) ∷ cell_blocks 1 header

  abbrev pub table_blocks : List Block
  table_blocks = table_block second third (length bytes) ∷ (head_blocks ++ rows_blocks (third + 1) rows)

  all_width : length bytes ≡ length head + suc (length (lined delimiters (map row_line rows)))
  all_width = length-append head (10 ∷ lined delimiters (map row_line rows))

  first_read : (known : Known) → known.syntax.tables ≡ true → IsRow header → length bytes < 2 ^ 64 → line_taken_in known bytes first_page (line 0 0 (0 + length head) second) ≡ header_alone (0 + length head)
  first_read known has h fits = header_taken known bytes (lined delimiters (map row_line rows)) header has h refl (omega (arith, all_width, fits))

-- the lines after the header
later_read : (known : Known) (header : List (List ℕ)) (c : PlainColumn) (cs : List PlainColumn) (rows : List (List (List ℕ))) → known.syntax.tables ≡ true → IsRow header → length header ≡ length (c ∷ cs) → AllByRecursion IsWithin (row_line (map column_bytes (c ∷ cs))) → AreRows (length (c ∷ cs)) rows → length (bytes header c cs rows) < 2 ^ 64
    → (last : ℕ) × (fold (line_taken_in known (bytes header c cs rows)) (header_alone (0 + length (row_line header))) (line_list 1 (second header c cs rows) (row_line (map column_bytes (c ∷ cs))) (map row_line rows))
    ≡ header_page (open_table (length (c ∷ cs))) (length (bytes header c cs rows)) last (table_block (second header c cs rows) (third header c cs rows) 0 ∷ (head_blocks header c cs rows ++ rows_blocks (third header c cs rows + 1) rows)))
later_read known header c cs [] has h same within hs fits =
    let row : List ℕ = row_line (map column_bytes (c ∷ cs)) in
    let head : List ℕ = row_line header in
    let text : List ℕ = head ++ 10 ∷ row in
    let start : ℕ = 0 + length head + 1 in
    let end : ℕ = start + length row in
    let t : text ≡ (head ++ 10 ∷ []) ++ (row ++ []) = sym (append_assoc head (10 ∷ []) row) ∙ ap (λ (xs : List ℕ). (head ++ 10 ∷ []) ++ xs) (sym (append-nil row)) in
    let at : start ≡ length head + 1 = omega arith in
    let all : length text ≡ end = length-append head (10 ∷ row) ∙ (let q : length head + suc (length row) ≡ end = omega arith in q) in
    let blocks : List Block = row_part 1 kind.TableHead 0 (0 + length head) ∷ cell_blocks 1 header in (
      2,
      delimiters_read known text [] header c cs start end end has h same within t at refl (let q : end < 2 ^ 64 = omega (arith, all, fits) in q)
          ∙ ap (λ m. header_page (open_table (length (c ∷ cs))) m 2 (table_block start end 0 ∷ blocks)) (sym all)
          ∙ ap (λ (bs : List Block). header_page (open_table (length (c ∷ cs))) (length text) 2 (table_block start end 0 ∷ bs)) (sym (append-nil blocks)),
    )
later_read known header c cs (r ∷ rs) has h same within hs fits =
    let row : List ℕ = row_line (map column_bytes (c ∷ cs)) in
    let head : List ℕ = row_line header in
    let more : List ℕ = lined (row_line r) (map row_line rs) in
    let text : List ℕ = head ++ 10 ∷ (row ++ 10 ∷ more) in
    let start : ℕ = 0 + length head + 1 in
    let end : ℕ = start + length row in
    let n : ℕ = length (c ∷ cs) in
    let t : text ≡ (head ++ 10 ∷ []) ++ (row ++ 10 ∷ more) = sym (append_assoc head (10 ∷ []) (row ++ 10 ∷ more)) in
    let at : start ≡ length head + 1 = omega arith in
    let all : length text ≡ length head + suc (length row + suc (length more)) = length-append head (10 ∷ (row ++ 10 ∷ more)) ∙ ap (λ k. length head + suc k) (length-append row (10 ∷ more)) in
    let blocks : List Block = row_part 1 kind.TableHead 0 (0 + length head) ∷ cell_blocks 1 header in
    let pre : List ℕ = (head ++ 10 ∷ []) ++ (row ++ 10 ∷ []) in
    let there : text ≡ pre ++ more = t ∙ ap (λ (xs : List ℕ). (head ++ 10 ∷ []) ++ xs) (sym (append_assoc row (10 ∷ []) more)) ∙ sym (append_assoc (head ++ 10 ∷ []) (row ++ 10 ∷ []) more) in
    let longer : end + 1 ≡ length pre = grind (arith, length-append) in
    let next = rows_read known text pre n end 2 2 (end + 1) r rs (table_block start end 0 ∷ blocks) hs there longer fits in (
      next.0,
      ap (λ (s : State). fold (line_taken_in known text) s (line_list 2 (end + 1) (row_line r) (map row_line rs))) (delimiters_read known text (10 ∷ more) header c cs start end (end + 1) has h same within t at refl (let q : end < 2 ^ 64 = omega (arith, all, fits) in q))
          ∙ next.1,
    )

tables_known : (syntax : Syntax) (text : List ℕ) (lines : List Line) → syntax.tables ≡ true → (known_of syntax text lines).syntax.tables ≡ true
unfolding known_of
tables_known syntax text lines has = has

line_text : (bs : List ℕ) → AllByRecursion IsWithin (124 ∷ bs) → IsLineText (124 ∷ bs)
line_text bs h = record { some = omega arith; within = h }

rows_text : (n : ℕ) (rs : List (List (List ℕ))) → AreRows n rs → AllByRecursion IsLineText (map row_line rs)
rows_text n [] h = tt
rows_text n (r ∷ rs) h = (line_text (barred r) (h.0.0).within, rows_text n rs (h.1))

-- the blocks of such a text
pub table_is_read : (syntax : Syntax) (header : List (List ℕ)) (c : PlainColumn) (cs : List PlainColumn) (rows : List (List (List ℕ))) → syntax.tables ≡ true → IsRow header → length header ≡ length (c ∷ cs) → AllByRecursion IsWithin (row_line (map column_bytes (c ∷ cs))) → AreRows (length (c ∷ cs)) rows → AllByRecursion (λ b. (b == 13) ≡ false) (bytes header c cs rows) → length (bytes header c cs rows) < 2 ^ 64
    → blocks_in syntax (bytes header c cs rows) ≡ record { blocks = table_blocks header c cs rows; pieces = []; definitions = [] }
unfolding blocks_in page_in
table_is_read syntax header c cs rows has h same within hs returns fits =
    let text : List ℕ = bytes header c cs rows in
    let row : List ℕ = row_line (map column_bytes (c ∷ cs)) in
    let lines : List Line = line_list 0 0 (row_line header) (row ∷ map row_line rows) in
    let known : Known = known_of syntax text lines in
    let tables : known.syntax.tables ≡ true = tables_known syntax text lines has in
    let split : lines_of text ≡ lines = lines_split text returns 0 0 (row_line header) (row ∷ map row_line rows) (line_text (barred header) h.within, (line_text (barred (map column_bytes (c ∷ cs))) within, rows_text (length (c ∷ cs)) rows hs)) in
    let later = later_read known header c cs rows tables h same within hs fits in
    ap (λ ls. view (closed_to text 0 (fold (line_taken_in (known_of syntax text ls) text) first_page ls))) split
    ∙ ap (λ (s : State). view (closed_to text 0 (fold (line_taken_in known text) s (line_list 1 (second header c cs rows) row (map row_line rows))))) (first_read header c cs rows known tables h fits)
    ∙ ap (λ (s : State). view (closed_to text 0 s)) (later.1)
    ∙ table_ends text (length (c ∷ cs)) (length text) (later.0) (second header c cs rows) (third header c cs rows) (head_blocks header c cs rows ++ rows_blocks (third header c cs rows + 1) rows)
