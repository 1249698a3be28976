-- A table of plain cells is read as that table.
use Rattle.std.proofs.Common.{◌≡◌, ℕ, zero, suc, ◌+◌, ◌^◌, ◌<◌, ◌≤◌, Bool, true, false, not, ◌==◌, ◌&&◌, if◌then◌else◌, List, [], ◌∷◌, ◌++◌, length, map, take, reverse, replicate, refl, ap, sym, subst, ◌∙◌, arith, append_assoc, append-nil, length-append, Option, true≢false}
use Rattle.std.proofs.lemmas.List.{length-map, length-replicate, map-append, reverse-append}
use Rattle.std.proofs.lemmas.List.Sums.{fold-append}
use Rattle.std.specs.Char.{is_ascii_alphanumeric}
use Rattle.std.specs.List.{AllByRecursion, fold, list_all}
use Rattle.tocmark_event.specs.Merged.{merged}
use Rattle.tocmark_event.specs.declared.event.Alignment.{Alignment}
use Rattle.tocmark_event.specs.declared.event.Alignment.TheVariants as align
use Rattle.tocmark_event.specs.View.{EventView, Start, End, Leaf, TagView, Table, TableHead, TableRow, TableCell, Text, end_of}
use Rattle.tocmark_event.specs.declared.event.TagEnd.TheVariants as end
use Rattle.tocmark_read_scan.specs.Basic.{bytes_between}
use Rattle.tocmark_read_scan.specs.declared.syntax.Syntax.{Syntax}
use Rattle.tocmark_read_scan.proofs.PlainPieces.{piece_between}
use Rattle.tocmark_read_scan.proofs.PlainTests.{both_true, is_not, turned, all_from, eq_of}
use Rattle.tocmark_read_page.specs.declared.page.Block.{Block}
use Rattle.tocmark_read_page.specs.declared.page.BlockKind.TheVariants as kind
use Rattle.tocmark_read_constructs.specs.Tables.{alignments_of, is_delimiter_byte}
use Rattle.tocmark_read_blocks.specs.Blocks.{BlocksView, blocks_in}
use Rattle.tocmark_read_blocks.proofs.PlainLines.{IsWithin}
use Rattle.tocmark_read_spans.specs.Definitions as defs
use Rattle.tocmark_read_spans.specs.declared.definitions.Entry.{Entry}
use Rattle.tocmark_reader.specs.Emitted.{NodeView, Container, Source, Writing, step, put, closed, end_event, emitted}
use Rattle.tocmark_reader.specs.Pages as pages
use Rattle.tocmark_reader.specs.Pages.{start_state, block_taken_in, block_step_in, cell_taken_in, cell_inlines_in, with_block, with_inlines, task_nodes, block_tag}
use Rattle.tocmark_reader.specs.PlainTexts.{IsReadAs}
use Rattle.tocmark_reader.specs.Range.{snapped}
use Rattle.tocmark_reader.specs.Reading.{FoundView, collected_in, collected_from, first_entry, found_under, noted, noted_as, reading_of}
use Rattle.tocmark_reader.specs.declared.emit.Open.{Open}
use Rattle.tocmark_reader.proofs.PlainEvents.{Marked, unplaced, source_of}
use Rattle.tocmark_reader.proofs.PlainReading.{IsPrintable}
use Rattle.tocmark_reader.proofs.PlainSources.{IsClean, AreClean, all_implied, source_between}
use Rattle.tocmark_laws.specs.Extensions.{lined, is_phrase}
use Rattle.tocmark_laws.specs.PlainTables.{PlainCell, PlainColumn, spaced, barred, row_line, dashes, column_bytes, column_alignment, cell_bytes, row_bytes, is_cell, is_row, table_text, cells_events, rows_events, table_events}
use Rattle.tocmark_laws.proofs.ExtensionParagraphs.{found_from, within_byte, clean_byte, clean_feed, no_returns}
use Rattle.tocmark_laws.proofs.StrikethroughReading.{phrase_from}
use Rattle.tocmark_laws.proofs.TableBlocks.{IsRow, AreRows, rows_blocks, second, third, head_blocks, table_blocks, table_is_read}
use Rattle.tocmark_laws.proofs.TableNodes.{IsCell, stands_in, no_slash, so_far, container, cell_nodes, rows_nodes, row_put, head_begins, table_begins, rows_put}
use Rattle.tocmark_laws.proofs.TableRows.{IsInside, AreInside, cell_blocks, next_cell, alignments_read}
use Rattle.tocmark_laws.proofs.WordsReading.{IsWordByte}

-- ---- the bytes of a table

all_both : (P : ℕ → Type 0) (xs ys : List ℕ) → AllByRecursion P xs → AllByRecursion P ys → AllByRecursion P (xs ++ ys)
all_both P [] ys h k = k
all_both P (x ∷ xs) ys h k = (h.0, all_both P xs ys (h.1) k)

all_same : (P : ℕ → Type 0) (n b : ℕ) → P b → AllByRecursion P (replicate n b)
all_same P zero b h = tt
all_same P (suc n) b h = (h, all_same P n b h)

all_spaced : (P : ℕ → Type 0) (before behind : ℕ) (xs : List ℕ) → P 32 → AllByRecursion P xs → AllByRecursion P (spaced before xs behind)
all_spaced P before behind xs space h = all_both P (replicate before 32) (xs ++ replicate behind 32) (all_same P before 32 space) (all_both P xs (replicate behind 32) h (all_same P behind 32 space))

all_barred : (P : ℕ → Type 0) (xs : List (List ℕ)) → P 124 → AllByRecursion (AllByRecursion P) xs → AllByRecursion P (barred xs)
all_barred P [] bar h = tt
all_barred P (x ∷ xs) bar h = all_both P x (124 ∷ barred xs) (h.0) (bar, all_barred P xs bar (h.1))

all_lined : (P : ℕ → Type 0) (x : List ℕ) (xs : List (List ℕ)) → P 10 → AllByRecursion (AllByRecursion P) (x ∷ xs) → AllByRecursion P (lined x xs)
all_lined P x [] feed h = h.0
all_lined P x (y ∷ ys) feed h = all_both P x (10 ∷ lined y ys) (h.0) (feed, all_lined P y ys feed (h.1))

shown : (b : ℕ) → 32 ≤ b → b < 127 → IsPrintable b
shown b low high = record { low = low; high = high }

cell_shown : (c : PlainCell) → IsCell c → AllByRecursion IsPrintable (cell_bytes c)
cell_shown c h =
    all_spaced IsPrintable c.before c.behind c.phrase (shown 32 (omega arith) (omega arith))
    (subst (AllByRecursion IsPrintable) (sym h.shape) (all_implied IsWordByte IsPrintable (h.first ∷ h.others) (λ x w. w.printable) h.phrase.bytes))

cells_shown : (cs : List PlainCell) → AllByRecursion IsCell cs → AllByRecursion (AllByRecursion IsPrintable) (row_bytes cs)
cells_shown [] h = tt
cells_shown (c ∷ cs) h = (cell_shown c (h.0), cells_shown cs (h.1))

dashes_shown : (c : PlainColumn) → AllByRecursion IsPrintable (column_bytes c)
dashes_shown c = all_spaced IsPrintable c.before c.behind (dashes c.alignment c.more) (shown 32 (omega arith) (omega arith)) (by_alignment c.alignment)
  where
    dash : IsPrintable 45
    dash = shown 45 (omega arith) (omega arith)

    colon : IsPrintable 58
    colon = shown 58 (omega arith) (omega arith)

    by_alignment : (a : Alignment) → AllByRecursion IsPrintable (dashes a c.more)
    by_alignment align.None = (dash, all_same IsPrintable c.more 45 dash)
    by_alignment align.Left = (colon, (dash, all_same IsPrintable c.more 45 dash))
    by_alignment align.Right = (dash, all_both IsPrintable (replicate c.more 45) (58 ∷ []) (all_same IsPrintable c.more 45 dash) (colon, tt))
    by_alignment align.Center = (colon, (dash, all_both IsPrintable (replicate c.more 45) (58 ∷ []) (all_same IsPrintable c.more 45 dash) (colon, tt)))

columns_shown : (cs : List PlainColumn) → AllByRecursion (AllByRecursion IsPrintable) (map column_bytes cs)
columns_shown [] = tt
columns_shown (c ∷ cs) = (dashes_shown c, columns_shown cs)

line_shown : (xs : List (List ℕ)) → AllByRecursion (AllByRecursion IsPrintable) xs → AllByRecursion IsPrintable (row_line xs)
line_shown xs h = (shown 124 (omega arith) (omega arith), all_barred IsPrintable xs (shown 124 (omega arith) (omega arith)) h)

clean_of : (xs : List ℕ) → AllByRecursion IsPrintable xs → AreClean xs
clean_of xs h = all_implied IsPrintable IsClean xs clean_byte h

rows_clean : (rows : List (List PlainCell)) → AllByRecursion (AllByRecursion IsCell) rows → AllByRecursion AreClean (map row_line (map row_bytes rows))
rows_clean [] h = tt
rows_clean (r ∷ rs) h = (clean_of (row_line (row_bytes r)) (line_shown (row_bytes r) (cells_shown r (h.0))), rows_clean rs (h.1))

table_clean : (header : List PlainCell) (columns : List PlainColumn) (rows : List (List PlainCell)) → AllByRecursion (AllByRecursion IsCell) (header ∷ rows) → AreClean (table_text header columns rows)
table_clean header columns rows h =
    all_lined IsClean (row_line (row_bytes header)) (row_line (map column_bytes columns) ∷ map row_line (map row_bytes rows)) clean_feed
    (clean_of (row_line (row_bytes header)) (line_shown (row_bytes header) (cells_shown header (h.0))), (clean_of (row_line (map column_bytes columns)) (line_shown (map column_bytes columns) (columns_shown columns)), rows_clean rows (h.1)))

inside_of : (b : ℕ) → IsWordByte b → (b == 124) ≡ false → IsInside b
inside_of b h k = record { bar = k; slash = no_slash b h }

all_inside : (xs : List ℕ) → AllByRecursion IsWordByte xs → AllByRecursion (λ b. (b == 124) ≡ false) xs → AreInside xs
all_inside [] h k = tt
all_inside (x ∷ xs) h k = (inside_of x (h.0) (k.0), all_inside xs (h.1) (k.1))

cells_inside : (cs : List PlainCell) → AllByRecursion IsCell cs → AllByRecursion AreInside (row_bytes cs)
cells_inside [] h = tt
cells_inside (c ∷ cs) h = (
  all_spaced IsInside c.before c.behind c.phrase (record { bar = refl; slash = refl }) (subst AreInside (sym (h.0).shape) (all_inside ((h.0).first ∷ (h.0).others) (h.0).phrase.bytes (h.0).bars)),
  cells_inside cs (h.1),
)

within_of : (xs : List ℕ) → AllByRecursion IsPrintable xs → AllByRecursion IsWithin xs
within_of xs h = all_implied IsPrintable IsWithin xs within_byte h

letter_no_mark : (b : ℕ) → is_ascii_alphanumeric b ≡ true → is_delimiter_byte b ≡ false
unfolding is_delimiter_byte
letter_no_mark b h = rw (turned is_ascii_alphanumeric 124 b h refl, turned is_ascii_alphanumeric 58 b h refl, turned is_ascii_alphanumeric 45 b h refl, turned is_ascii_alphanumeric 32 b h refl) refl

row_is : (c : PlainCell) (cs : List PlainCell) → AllByRecursion IsCell (c ∷ cs) → IsRow (row_bytes (c ∷ cs))
row_is c cs h =
    let k = h.0 in
    let rest : List ℕ = 124 ∷ barred (row_bytes cs) in
    record {
      inside = cells_inside (c ∷ cs) h;
      within = within_of (row_line (row_bytes (c ∷ cs))) (line_shown (row_bytes (c ∷ cs)) (cells_shown (c ∷ cs) h));
      spaces = c.before;
      first = k.first;
      more = k.others ++ (replicate c.behind 32 ++ rest);
      shape = append_assoc (replicate c.before 32) (c.phrase ++ replicate c.behind 32) rest
          ∙ ap (λ (l : List ℕ). replicate c.before 32 ++ l) (append_assoc c.phrase (replicate c.behind 32) rest)
          ∙ ap (λ (l : List ℕ). replicate c.before 32 ++ (l ++ (replicate c.behind 32 ++ rest))) k.shape;
      mark = letter_no_mark k.first k.phrase.first;
      ink = turned is_ascii_alphanumeric 32 k.first k.phrase.first refl;
    }

some_row : (m : ℕ) (cs : List PlainCell) → AllByRecursion IsCell cs → length cs ≡ suc m → IsRow (row_bytes cs)
some_row m [] h e = absurd (omega (arith, e))
some_row m (c ∷ cs) h e = row_is c cs h

-- rows of so many cells
abbrev AreFull : ℕ → List (List PlainCell) → Type 0
AreFull n rows = AllByRecursion (λ r. AllByRecursion IsCell r × (length r ≡ n)) rows

full_rows : (m : ℕ) (rows : List (List PlainCell)) → AreFull (suc m) rows → AreRows (suc m) (map row_bytes rows)
full_rows m [] h = tt
full_rows m (r ∷ rs) h = ((some_row m r (h.0.0) (h.0.1), length-map r cell_bytes ∙ h.0.1), full_rows m rs (h.1))

full_cells : (n : ℕ) (rows : List (List PlainCell)) → AreFull n rows → AllByRecursion (AllByRecursion IsCell) rows
full_cells n [] h = tt
full_cells n (r ∷ rs) h = (h.0.0, full_cells n rs (h.1))

-- ---- from what is tested

no_bar_byte : (b : ℕ) → not (b == 124) ≡ true → (b == 124) ≡ false
no_bar_byte b h = is_not (b == 124) h

cell_of : (before behind : ℕ) (xs : List ℕ) → (is_phrase xs && list_all (λ b. not (b == 124)) xs) ≡ true → IsCell (record { before = before; phrase = xs; behind = behind })
cell_of before behind [] h = absurd (true≢false (sym h))
cell_of before behind (b ∷ bs) h =
    let two = both_true (is_phrase (b ∷ bs)) (list_all (λ x. not (x == 124)) (b ∷ bs)) h in
    record { first = b; others = bs; shape = refl; phrase = phrase_from b bs (two.0); bars = all_from (λ x. not (x == 124)) (λ x. (x == 124) ≡ false) (b ∷ bs) no_bar_byte (two.1) }

cell_from : (c : PlainCell) → is_cell c ≡ true → IsCell c
cell_from c h = cell_of c.before c.behind c.phrase h

row_from : (n : ℕ) (r : List PlainCell) → is_row n r ≡ true → AllByRecursion IsCell r × (length r ≡ n)
row_from n r h =
    let two = both_true (length r == n) (list_all is_cell r) h in
    (all_from is_cell IsCell r cell_from (two.1), eq_of (length r) n (two.0))

-- ---- what is found

none_in_cells : (text : List ℕ) (s : defs.State) (at : ℕ) (cells : List (List ℕ)) (more : List Block) → noted text (cell_blocks at cells ++ more) s ≡ noted text more s
unfolding noted_as
none_in_cells text s at [] more = refl
none_in_cells text s at (c ∷ cs) more = none_in_cells text s (at + length c + 1) cs more

none_in_rows : (text : List ℕ) (s : defs.State) (start : ℕ) (rows : List (List (List ℕ))) → noted text (rows_blocks start rows) s ≡ s
unfolding noted_as
none_in_rows text s start [] = refl
none_in_rows text s start (r ∷ rs) = none_in_cells text s (start + 1) r (rows_blocks (start + length (row_line r) + 1) rs) ∙ none_in_rows text s (start + length (row_line r) + 1) rs

none_in_table : (text : List ℕ) (s : defs.State) (header : List (List ℕ)) (c : PlainColumn) (cs : List PlainColumn) (rows : List (List (List ℕ))) → noted text (table_blocks header c cs rows) s ≡ s
unfolding noted_as
none_in_table text s header c cs rows = none_in_cells text s 1 header (rows_blocks (third header c cs rows + 1) rows) ∙ none_in_rows text s (third header c cs rows + 1) rows

none_collected : (syntax : Syntax) (text : List ℕ) (header : List (List ℕ)) (c : PlainColumn) (cs : List PlainColumn) (rows : List (List (List ℕ))) → collected_from syntax text (record { blocks = table_blocks header c cs rows; pieces = []; definitions = [] }) ≡ defs.collected_none
unfolding collected_from
none_collected syntax text header c cs rows = by_test syntax.footnotes
  where
    by_test : (t : Bool) → (if t then noted text (table_blocks header c cs rows) (collected_in syntax.names []) else collected_in syntax.names []) ≡ defs.collected_none
    by_test true = none_in_table text (collected_in syntax.names []) header c cs rows
    by_test false = refl

-- the delimiter row in a text
delimiters_stand : (head row : List ℕ) (rows : List (List ℕ)) (from to : ℕ) → from ≡ 0 + length head + 1 → to ≡ from + length row → bytes_between (head ++ 10 ∷ lined row rows) from to ≡ row
delimiters_stand head row rows from to f e = by_rows rows
  where
    front : from ≡ length (head ++ 10 ∷ [])
    front = f ∙ (let q : 0 + length head + 1 ≡ length (head ++ 10 ∷ []) = grind (arith, length-append) in q)

    by_rows : (ms : List (List ℕ)) → bytes_between (head ++ 10 ∷ lined row ms) from to ≡ row
    by_rows [] = piece_between (head ++ 10 ∷ row) (head ++ 10 ∷ []) row [] from to (sym (append_assoc head (10 ∷ []) row) ∙ ap (λ (l : List ℕ). (head ++ 10 ∷ []) ++ l) (sym (append-nil row))) front (e ∙ ap (λ n. n + length row) front)
    by_rows (m ∷ ms) = piece_between (head ++ 10 ∷ (row ++ 10 ∷ lined m ms)) (head ++ 10 ∷ []) row (10 ∷ lined m ms) from to (sym (append_assoc head (10 ∷ []) (row ++ 10 ∷ lined m ms))) front (e ∙ ap (λ n. n + length row) front)

-- the nodes of a table
abbrev table_nodes : List ℕ → List PlainCell → PlainColumn → List PlainColumn → List (List PlainCell) → List NodeView
table_nodes text header c cs rows =
    let at : ℕ = third (row_bytes header) c cs (map row_bytes rows) in
    container 0 (Table (map column_alignment (c ∷ cs))) 0 (length text)
    ∷ ((container 1 TableHead 0 (0 + length (row_line (row_bytes header))) ∷ cell_nodes 1 header) ++ rows_nodes (at + 1) rows)

rows_taken : (syntax : Syntax) (find : List ℕ → Option Entry) (all : List Block) (header : List PlainCell) (c : PlainColumn) (cs : List PlainColumn) (rows : List (List PlainCell)) (ns : List NodeView) → length (table_text header (c ∷ cs) rows) < 2 ^ 64 → AllByRecursion (AllByRecursion IsCell) rows → fold (block_step_in syntax (table_text header (c ∷ cs) rows) find all []) (so_far ns) (rows_blocks (third (row_bytes header) c cs (map row_bytes rows) + 1) (map row_bytes rows)) ≡ so_far (ns ++ rows_nodes (third (row_bytes header) c cs (map row_bytes rows) + 1) rows)
rows_taken syntax find all header c cs [] ns fits h = ap so_far (sym (append-nil ns))
rows_taken syntax find all header c cs (r ∷ rs) ns fits h =
    let head : List ℕ = row_line (row_bytes header) in
    let row : List ℕ = row_line (map column_bytes (c ∷ cs)) in
    let more : List ℕ = lined (row_line (row_bytes r)) (map row_line (map row_bytes rs)) in
    let text : List ℕ = table_text header (c ∷ cs) (r ∷ rs) in
    let pre : List ℕ = (head ++ 10 ∷ []) ++ (row ++ 10 ∷ []) in
    let there : text ≡ pre ++ more =
    sym (append_assoc head (10 ∷ []) (row ++ 10 ∷ more))
    ∙ ap (λ (xs : List ℕ). (head ++ 10 ∷ []) ++ xs) (sym (append_assoc row (10 ∷ []) more))
    ∙ sym (append_assoc (head ++ 10 ∷ []) (row ++ 10 ∷ []) more)
    in
    let longer : 0 + length head + 1 + length row + 1 ≡ length pre = grind (arith, length-append) in
    rows_put syntax text find all [] fits pre (0 + length head + 1 + length row + 1) r rs ns h there longer

table_found : (syntax : Syntax) (header : List PlainCell) (c : PlainColumn) (cs : List PlainColumn) (rows : List (List PlainCell)) → syntax.tables ≡ true → AreFull (length (c ∷ cs)) (header ∷ rows) → length (table_text header (c ∷ cs) rows) < 2 ^ 64
    → found_under syntax (table_text header (c ∷ cs) rows) ≡ record { nodes = table_nodes (table_text header (c ∷ cs) rows) header c cs rows; defined = []; unresolved = [] }
table_found syntax header c cs rows has h fits =
    let text : List ℕ = table_text header (c ∷ cs) rows in
    let find : List ℕ → Option Entry = first_entry syntax.undefined_notes [] [] in
    let hs : List (List ℕ) = row_bytes header in
    let rs : List (List (List ℕ)) = map row_bytes rows in
    let head : List ℕ = row_line hs in
    let row : List ℕ = row_line (map column_bytes (c ∷ cs)) in
    let cells = full_cells (length (c ∷ cs)) (header ∷ rows) h in
    let clean : AreClean text = table_clean header (c ∷ cs) rows cells in
    let all : List Block = table_blocks hs c cs rs in
    let blocks : BlocksView = record { blocks = all; pieces = []; definitions = [] } in
    let from : ℕ = second hs c cs rs in
    let to : ℕ = third hs c cs rs in
    let lines : List ℕ = lined row (map row_line rs) in
    let columns : AllByRecursion IsWithin row = within_of row (line_shown (map column_bytes (c ∷ cs)) (columns_shown (c ∷ cs))) in
    let is_blocks : blocks_in syntax text ≡ blocks = table_is_read syntax hs c cs rs has (some_row (length cs) header (h.0.0) (h.0.1)) (length-map header cell_bytes ∙ h.0.1) columns (full_rows (length cs) rows (h.1)) (no_returns text clean) fits in
    let head_nodes : List NodeView = container 1 TableHead 0 (0 + length head) ∷ cell_nodes 1 header in
    let top : List Alignment → NodeView = λ xs. container 0 (Table xs) 0 (length text) in
    let found : pages.State → FoundView = λ page. record { nodes = page.nodes; defined = []; unresolved = defs.distinct_labels page.inlines.texts page.inlines.missed } in
    let first : List NodeView = top (alignments_of (bytes_between text from to)) ∷ [] in
    let aligned : alignments_of (bytes_between text from to) ≡ map column_alignment (c ∷ cs) = ap alignments_of (delimiters_stand head row (map row_line rs) from to refl refl) ∙ alignments_read (c ∷ cs) in
    found_from syntax text blocks defs.collected_none is_blocks (none_collected syntax text hs c cs rs)
    ∙ ap (λ (s : pages.State). found (fold (block_step_in syntax text find all []) s (head_blocks hs c cs rs ++ rows_blocks (to + 1) rs))) (table_begins syntax text find all [] fits from to (length text) _)
    ∙ ap found (fold-append (block_step_in syntax text find all []) (so_far first) (head_blocks hs c cs rs) (rows_blocks (to + 1) rs))
    ∙ ap (λ (s : pages.State). found (fold (block_step_in syntax text find all []) s (rows_blocks (to + 1) rs))) (row_put syntax text find all [] fits kind.TableHead TableHead first 0 (0 + length head) (head_begins syntax text find all [] fits first 0 (0 + length head)) [] (10 ∷ lines) header (cells.0) refl refl)
    ∙ ap found (rows_taken syntax find all header c cs rows (first ++ head_nodes) fits (cells.1))
    ∙ ap (λ (xs : List Alignment). found (so_far (top xs ∷ (head_nodes ++ rows_nodes (to + 1) rows)))) aligned

-- ---- its events

closed_twice : (es : List Marked) (os : List Open) → closed 1 (closed 2 (record { events = es; stack = os })) ≡ closed 1 (record { events = es; stack = os })
closed_twice es [] = ap (λ (x : List Marked). (let w : Writing = record { events = x ++ []; stack = [] } in w)) (append-nil es)
closed_twice es (a ∷ []) = ap (λ (x : List Marked). (let w : Writing = record { events = x ++ []; stack = a ∷ [] } in w)) (append-nil es)
closed_twice es (a ∷ b ∷ os) =
    ap (λ (x : List Open). (let w : Writing = record { events = (es ++ map end_event (reverse os)) ++ map end_event (reverse (b ∷ x)); stack = a ∷ [] } in w)) (take_none os)
    ∙ ap (λ (x : List Marked). (let w : Writing = record { events = x; stack = a ∷ [] } in w)) (append_assoc es (map end_event (reverse os)) (end_event b ∷ []) ∙ ap (λ (x : List Marked). es ++ x) (sym (ap (map end_event) (reverse-append (b ∷ []) os) ∙ map-append end_event (reverse os) (b ∷ []))))
  where
    take_none : (xs : List Open) → take 0 xs ≡ []
    take_none [] = refl
    take_none (x ∷ xs) = refl

pub closed_again : (es : List Marked) (os : List Open) → closed 0 (closed 1 (record { events = es; stack = os })) ≡ closed 0 (record { events = es; stack = os })
closed_again es [] = ap (λ (x : List Marked). (let w : Writing = record { events = x ++ []; stack = [] } in w)) (append-nil es)
closed_again es (b ∷ os) =
    ap (λ (x : List Open). (let w : Writing = record { events = (es ++ map end_event (reverse os)) ++ map end_event (reverse (b ∷ x)); stack = [] } in w)) (take_none os)
    ∙ ap (λ (x : List Marked). (let w : Writing = record { events = x; stack = [] } in w)) (append_assoc es (map end_event (reverse os)) (end_event b ∷ []) ∙ ap (λ (x : List Marked). es ++ x) (sym (ap (map end_event) (reverse-append (b ∷ []) os) ∙ map-append end_event (reverse os) (b ∷ []))))
  where
    take_none : (xs : List Open) → take 0 xs ≡ []
    take_none [] = refl
    take_none (x ∷ xs) = refl

module _ (text : List ℕ) where
  -- the events of cells from a place on
  abbrev cell_marks : ℕ → List PlainCell → List Marked
  cell_marks at [] = []
  cell_marks at (c ∷ cs) =
      (Start TableCell, snapped text at (at + length (cell_bytes c)))
      ∷ (Leaf (Text (source_of text (at + c.before) (at + c.before + length c.phrase))), snapped text (at + c.before) (at + c.before + length c.phrase))
      ∷ (End end.TableCell, snapped text at (at + length (cell_bytes c)))
      ∷ cell_marks (at + length (cell_bytes c) + 1) cs

  -- the events of a row
  abbrev row_marks : TagView → ℕ → ℕ → List PlainCell → List Marked
  row_marks tag start stop cs = (Start tag, snapped text start stop) ∷ (cell_marks (start + 1) cs ++ (End (end_of tag), snapped text start stop) ∷ [])

  abbrev rows_marks : ℕ → List (List PlainCell) → List Marked
  rows_marks start [] = []
  rows_marks start (r ∷ rs) = row_marks TableRow start (start + length (row_line (row_bytes r))) r ++ rows_marks (start + length (row_line (row_bytes r)) + 1) rs

  abbrev two_open : Open → Open → List Marked → Writing
  two_open t r es = record { events = es; stack = t ∷ r ∷ [] }

  abbrev one_open : Open → List Marked → Writing
  one_open t es = record { events = es; stack = t ∷ [] }

  cells_emitted : (t r : Open) (at : ℕ) (cs : List PlainCell) (w : Writing) (es : List Marked) → closed 2 w ≡ two_open t r es → closed 2 (fold (step text) w (cell_nodes at cs)) ≡ two_open t r (es ++ cell_marks at cs)
  cells_emitted t r at [] w es h = h ∙ ap (two_open t r) (sym (append-nil es))
  cells_emitted t r at (c ∷ cs) w es h =
      let stop : ℕ = at + length (cell_bytes c) in
      let from : ℕ = at + c.before in
      let to : ℕ = from + length c.phrase in
      let range : ℕ × ℕ = snapped text at stop in
      let o : Open = record { end = end.TableCell; range = range } in
      let first : Marked = (Start TableCell, range) in
      let middle : Marked = (Leaf (Text (source_of text from to)), snapped text from to) in
      let last : Marked = (End end.TableCell, range) in
      let three : List Marked → Writing = λ x. record { events = x; stack = t ∷ r ∷ o ∷ [] } in
      let more : List NodeView = cell_nodes (stop + 1) cs in
      ap (λ (u : Writing). closed 2 (fold (step text) (put text (Container TableCell) range u) (pages.node 3 Source from to ∷ more))) h
      ∙ ap (λ (x : List Marked). closed 2 (fold (step text) (three (x ++ middle ∷ [])) more)) (append-nil (es ++ first ∷ []))
      ∙ cells_emitted t r (stop + 1) cs (three ((es ++ first ∷ []) ++ middle ∷ [])) (((es ++ first ∷ []) ++ middle ∷ []) ++ last ∷ []) refl
      ∙ ap (two_open t r) (append_assoc ((es ++ first ∷ []) ++ middle ∷ []) (last ∷ []) (cell_marks (stop + 1) cs)
      ∙ append_assoc (es ++ first ∷ []) (middle ∷ []) (last ∷ cell_marks (stop + 1) cs)
      ∙ append_assoc es (first ∷ []) (middle ∷ last ∷ cell_marks (stop + 1) cs))

  row_emitted : (t : Open) (tag : TagView) (start stop : ℕ) (cs : List PlainCell) (w : Writing) (es : List Marked) → closed 1 w ≡ one_open t es → closed 1 (fold (step text) w (container 1 tag start stop ∷ cell_nodes (start + 1) cs)) ≡ one_open t (es ++ row_marks tag start stop cs)
  row_emitted t tag start stop cs w es h =
      let range : ℕ × ℕ = snapped text start stop in
      let r : Open = record { end = end_of tag; range = range } in
      let first : Marked = (Start tag, range) in
      let last : Marked = (End (end_of tag), range) in
      let begun : Writing = two_open t r (es ++ first ∷ []) in
      let after : Writing = fold (step text) begun (cell_nodes (start + 1) cs) in
      let inner : List Marked = cell_marks (start + 1) cs in
      ap (λ (u : Writing). closed 1 (fold (step text) (put text (Container tag) range u) (cell_nodes (start + 1) cs))) h
      ∙ sym (closed_twice after.events after.stack)
      ∙ ap (closed 1) (cells_emitted t r (start + 1) cs begun (es ++ first ∷ []) (ap (two_open t r) (append-nil (es ++ first ∷ []))))
      ∙ ap (one_open t) (append_assoc (es ++ first ∷ []) inner (last ∷ []) ∙ append_assoc es (first ∷ []) (inner ++ last ∷ []))

  rows_emitted : (t : Open) (start : ℕ) (rs : List (List PlainCell)) (w : Writing) (es : List Marked) → closed 1 w ≡ one_open t es → closed 1 (fold (step text) w (rows_nodes start rs)) ≡ one_open t (es ++ rows_marks start rs)
  rows_emitted t start [] w es h = h ∙ ap (one_open t) (sym (append-nil es))
  rows_emitted t start (r ∷ rs) w es h =
      let stop : ℕ = start + length (row_line (row_bytes r)) in
      let here : List NodeView = container 1 TableRow start stop ∷ cell_nodes (start + 1) r in
      let inner : List Marked = row_marks TableRow start stop r in
      ap (closed 1) (fold-append (step text) w here (rows_nodes (stop + 1) rs))
      ∙ rows_emitted t (stop + 1) rs (fold (step text) w here) (es ++ inner) (row_emitted t TableRow start stop r w es h)
      ∙ ap (one_open t) (append_assoc es inner (rows_marks (stop + 1) rs))

  table_emitted : (tag : TagView) (stop head at : ℕ) (header : List PlainCell) (rows : List (List PlainCell)) → emitted text (container 0 tag 0 stop ∷ ((container 1 TableHead 0 head ∷ cell_nodes 1 header) ++ rows_nodes at rows)) ≡ (Start tag, snapped text 0 stop) ∷ ((row_marks TableHead 0 head header ++ rows_marks at rows) ++ (End (end_of tag), snapped text 0 stop) ∷ [])
  table_emitted tag stop head at header rows =
      let range : ℕ × ℕ = snapped text 0 stop in
      let t : Open = record { end = end_of tag; range = range } in
      let first : Marked = (Start tag, range) in
      let begun : Writing = one_open t (first ∷ []) in
      let here : List NodeView = container 1 TableHead 0 head ∷ cell_nodes 1 header in
      let after : Writing = fold (step text) begun (here ++ rows_nodes at rows) in
      ap (λ (u : Writing). u.events) (sym (closed_again after.events after.stack)
      ∙ ap (closed 0) (ap (closed 1) (fold-append (step text) begun here (rows_nodes at rows))
      ∙ rows_emitted t at rows (fold (step text) begun here) (first ∷ row_marks TableHead 0 head header) (row_emitted t TableHead 0 head header begun (first ∷ []) refl)))

-- ---- and what these say

pub unplaced_both : (xs ys : List Marked) → unplaced (xs ++ ys) ≡ unplaced xs ++ unplaced ys
unplaced_both xs ys = map-append (λ (e : Marked). e.0) xs ys

module _ (text : List ℕ) (clean : AreClean text) where
  cells_said : (pre rest : List ℕ) (at : ℕ) (cs : List PlainCell) (more : List EventView) → text ≡ pre ++ (barred (row_bytes cs) ++ rest) → at ≡ length pre → merged (unplaced (cell_marks text at cs) ++ more) ≡ cells_events cs ++ merged more
  cells_said pre rest at [] more t e = refl
  cells_said pre rest at (c ∷ cs) more t e =
      let cell : List ℕ = cell_bytes c in
      let others : List ℕ = barred (row_bytes cs) in
      let stop : ℕ = at + length cell in
      let from : ℕ = at + c.before in
      let to : ℕ = from + length c.phrase in
      let front : List ℕ = pre ++ replicate c.before 32 in
      let spaces : length {A = ℕ} (replicate c.before 32) ≡ c.before = length-replicate c.before 32 in
      let begins : from ≡ length front = ap (λ n. n + c.before) e ∙ ap (λ n. length pre + n) (sym spaces) ∙ sym (length-append pre (replicate c.before 32)) in
      let whole : text ≡ pre ++ (cell ++ 124 ∷ (others ++ rest)) = t ∙ ap (λ (l : List ℕ). pre ++ l) (append_assoc cell (124 ∷ others) rest) in
      let there : text ≡ front ++ (c.phrase ++ (replicate c.behind 32 ++ 124 ∷ (others ++ rest))) = stands_in text pre (124 ∷ (others ++ rest)) c.before c.behind c.phrase whole in
      let says : source_of text from to ≡ c.phrase = source_between text front c.phrase (replicate c.behind 32 ++ 124 ∷ (others ++ rest)) from to there begins (ap (λ n. n + length c.phrase) begins) clean in
      let longer : length (pre ++ (cell ++ 124 ∷ [])) ≡ length pre + length cell + 1 = grind (arith, length-append) in
      ap (λ (x : List ℕ). Start TableCell ∷ Leaf (Text x) ∷ End end.TableCell ∷ merged (unplaced (cell_marks text (stop + 1) cs) ++ more)) says
      ∙ ap (λ (es : List EventView). Start TableCell ∷ Leaf (Text c.phrase) ∷ End end.TableCell ∷ es) (cells_said (pre ++ (cell ++ 124 ∷ [])) rest (stop + 1) cs more (next_cell text pre cell others rest t) (omega (arith, e, longer)))

  row_said : (tag : TagView) (pre rest : List ℕ) (start stop : ℕ) (cs : List PlainCell) (more : List EventView) → text ≡ pre ++ (row_line (row_bytes cs) ++ rest) → start ≡ length pre → merged (unplaced (row_marks text tag start stop cs) ++ more) ≡ Start tag ∷ (cells_events cs ++ End (end_of tag) ∷ merged more)
  row_said tag pre rest start stop cs more t e =
      let inner : List Marked = cell_marks text (start + 1) cs in
      let last : Marked = (End (end_of tag), snapped text start stop) in
      let longer : start + 1 ≡ length (pre ++ 124 ∷ []) = ap (λ n. n + 1) e ∙ sym (length-append pre (124 ∷ [])) in
      ap (λ (es : List EventView). Start tag ∷ merged (es ++ more)) (unplaced_both inner (last ∷ []))
      ∙ ap (λ (es : List EventView). Start tag ∷ merged es) (append_assoc (unplaced inner) (End (end_of tag) ∷ []) more)
      ∙ ap (λ (es : List EventView). Start tag ∷ es) (cells_said (pre ++ 124 ∷ []) rest (start + 1) cs (End (end_of tag) ∷ more) (t ∙ sym (append_assoc pre (124 ∷ []) (barred (row_bytes cs) ++ rest))) longer)

  joined_rows : (r : List PlainCell) (es fs : List EventView) → Start TableRow ∷ (cells_events r ++ End end.TableRow ∷ (es ++ fs)) ≡ (Start TableRow ∷ (cells_events r ++ End end.TableRow ∷ es)) ++ fs
  joined_rows r es fs = ap (λ (x : List EventView). Start TableRow ∷ x) (sym (append_assoc (cells_events r) (End end.TableRow ∷ es) fs))

  split_rows : (first later : List Marked) (more : List EventView) → merged (unplaced (first ++ later) ++ more) ≡ merged (unplaced first ++ (unplaced later ++ more))
  split_rows first later more = ap merged (ap (λ (es : List EventView). es ++ more) (unplaced_both first later) ∙ append_assoc (unplaced first) (unplaced later) more)

  rows_said : (pre : List ℕ) (start : ℕ) (r : List PlainCell) (rs : List (List PlainCell)) (more : List EventView) → text ≡ pre ++ lined (row_line (row_bytes r)) (map row_line (map row_bytes rs)) → start ≡ length pre → merged (unplaced (rows_marks text start (r ∷ rs)) ++ more) ≡ rows_events (r ∷ rs) ++ merged more
  rows_said pre start r [] more t e =
      let row : List ℕ = row_line (row_bytes r) in
      split_rows (row_marks text TableRow start (start + length row) r) [] more
      ∙ row_said TableRow pre [] start (start + length row) r more (t ∙ ap (λ (l : List ℕ). pre ++ l) (sym (append-nil row))) e
      ∙ joined_rows r [] (merged more)
  rows_said pre start r (m ∷ ms) more t e =
      let row : List ℕ = row_line (row_bytes r) in
      let others : List ℕ = lined (row_line (row_bytes m)) (map row_line (map row_bytes ms)) in
      let next : ℕ = start + length row + 1 in
      let later : List Marked = rows_marks text next (m ∷ ms) in
      let there : text ≡ (pre ++ (row ++ 10 ∷ [])) ++ others = t ∙ ap (λ (xs : List ℕ). pre ++ xs) (sym (append_assoc row (10 ∷ []) others)) ∙ sym (append_assoc pre (row ++ 10 ∷ []) others) in
      let longer : next ≡ length (pre ++ (row ++ 10 ∷ [])) = ap (λ k. k + length row + 1) e ∙ (let q : length pre + length row + 1 ≡ length (pre ++ (row ++ 10 ∷ [])) = grind (arith, length-append) in q) in
      split_rows (row_marks text TableRow start (start + length row) r) later more
      ∙ row_said TableRow pre (10 ∷ others) start (start + length row) r (unplaced later ++ more) t e
      ∙ ap (λ (es : List EventView). Start TableRow ∷ (cells_events r ++ End end.TableRow ∷ es)) (rows_said (pre ++ (row ++ 10 ∷ [])) next m ms more there longer)
      ∙ joined_rows r (rows_events (m ∷ ms)) (merged more)

-- ---- the law

rows_end : (text : List ℕ) (clean : AreClean text) (header : List PlainCell) (columns : List PlainColumn) (rows : List (List PlainCell)) (at : ℕ) → text ≡ table_text header columns rows → at ≡ 0 + length (row_line (row_bytes header)) + 1 + length (row_line (map column_bytes columns)) + 1 → merged (unplaced (rows_marks text at rows) ++ End end.Table ∷ []) ≡ rows_events rows ++ End end.Table ∷ []
rows_end text clean header columns [] at t e = refl
rows_end text clean header columns (r ∷ rs) at t e =
    let head : List ℕ = row_line (row_bytes header) in
    let row : List ℕ = row_line (map column_bytes columns) in
    let more : List ℕ = lined (row_line (row_bytes r)) (map row_line (map row_bytes rs)) in
    let pre : List ℕ = (head ++ 10 ∷ []) ++ (row ++ 10 ∷ []) in
    let there : text ≡ pre ++ more =
    t
    ∙ sym (append_assoc head (10 ∷ []) (row ++ 10 ∷ more))
    ∙ ap (λ (xs : List ℕ). (head ++ 10 ∷ []) ++ xs) (sym (append_assoc row (10 ∷ []) more))
    ∙ sym (append_assoc (head ++ 10 ∷ []) (row ++ 10 ∷ []) more)
    in
    let longer : at ≡ length pre = e ∙ (let q : 0 + length head + 1 + length row + 1 ≡ length pre = grind (arith, length-append) in q) in
    rows_said text clean pre at r rs (End end.Table ∷ []) there longer

pub table_read : (syntax : Syntax) (header : List PlainCell) (c : PlainColumn) (cs : List PlainColumn) (rows : List (List PlainCell)) → syntax.tables ≡ true → list_all (is_row (length (c ∷ cs))) (header ∷ rows) ≡ true → length (table_text header (c ∷ cs) rows) < 2 ^ 64 → IsReadAs (reading_of syntax (table_text header (c ∷ cs) rows)) (table_events header (c ∷ cs) rows)
unfolding reading_of
table_read syntax header c cs rows has h fits =
    let text : List ℕ = table_text header (c ∷ cs) rows in
    let full : AreFull (length (c ∷ cs)) (header ∷ rows) = all_from (is_row (length (c ∷ cs))) (λ r. AllByRecursion IsCell r × (length r ≡ length (c ∷ cs))) (header ∷ rows) (row_from (length (c ∷ cs))) h in
    let clean : AreClean text = table_clean header (c ∷ cs) rows (full_cells (length (c ∷ cs)) (header ∷ rows) full) in
    let found = table_found syntax header c cs rows has full fits in
    let head : List ℕ = row_line (row_bytes header) in
    let lines : List ℕ = lined (row_line (map column_bytes (c ∷ cs))) (map row_line (map row_bytes rows)) in
    let stop : ℕ = 0 + length head in
    let at : ℕ = third (row_bytes header) c cs (map row_bytes rows) + 1 in
    let tag : TagView = Table (map column_alignment (c ∷ cs)) in
    let first : List Marked = row_marks text TableHead 0 stop header in
    let others : List Marked = rows_marks text at rows in
    let last : Marked = (End end.Table, snapped text 0 (length text)) in
    record {
      events = ap (λ (f : FoundView). merged (unplaced (emitted text f.nodes))) found
          ∙ ap (λ (es : List Marked). merged (unplaced es)) (table_emitted text tag (length text) stop at header rows)
          ∙ ap (λ (es : List EventView). Start tag ∷ merged es) (unplaced_both (first ++ others) (last ∷ []) ∙ ap (λ (es : List EventView). es ++ End end.Table ∷ []) (unplaced_both first others) ∙ append_assoc (unplaced first) (unplaced others) (End end.Table ∷ []))
          ∙ ap (λ (es : List EventView). Start tag ∷ es) (row_said text clean TableHead [] (10 ∷ lines) 0 stop header (unplaced others ++ End end.Table ∷ []) refl refl)
          ∙ ap (λ (es : List EventView). Start tag ∷ Start TableHead ∷ (cells_events header ++ End end.TableHead ∷ es)) (rows_end text clean header (c ∷ cs) rows at refl refl);
      defined = ap (λ (f : FoundView). f.defined) found;
      unresolved = ap (λ (f : FoundView). f.unresolved) found;
    }
