-- The bars of a table's rows, and the columns of its delimiter row.
use Rattle.std.proofs.Common.{◌≡◌, ℕ, zero, suc, ◌+◌, ◌-◌, ◌%◌, ◌^◌, ◌<◌, ◌≤◌, Bool, true, false, ◌==◌, ◌&&◌, ◌||◌, if◌then◌else◌, nat_lt, List, [], ◌∷◌, ◌++◌, length, map, reverse, replicate, refl, ap, sym, ◌∙◌, arith, append_assoc, append-nil, length-append, Some, None}
use Rattle.std.proofs.lemmas.Bool.Decides.{nat_tests}
use Rattle.std.proofs.lemmas.List.{reverse-append}
use Rattle.std.specs.List.{AllByRecursion, fold, list_all, list_any, take_while}
use Rattle.tocmark_event.specs.declared.event.Alignment.{Alignment}
use Rattle.tocmark_event.specs.declared.event.Alignment.TheVariants as align
use Rattle.tocmark_read_scan.specs.Basic.{plus, byte_at, bytes_between}
use Rattle.tocmark_read_scan.specs.Repeat.{repeated}
use Rattle.tocmark_read_scan.proofs.PlainContent.{byte_behind}
use Rattle.tocmark_read_scan.proofs.PlainPieces.{piece_between}
use Rattle.tocmark_read_scan.proofs.PlainTests.{both_true, or_second}
use Rattle.tocmark_read_scan.proofs.Repeats.{repeated_more, repeated_stop}
use Rattle.tocmark_read_page.specs.Pages.{State, times}
use Rattle.tocmark_read_page.specs.declared.leaf.Leaf.{Leaf}
use Rattle.tocmark_read_page.specs.declared.page.Block.{Block}
use Rattle.tocmark_read_page.specs.declared.page.BlockKind.{BlockKind}
use Rattle.tocmark_read_page.specs.declared.page.BlockKind.TheVariants as kind
use Rattle.tocmark_read_page.specs.declared.page.HeaderLine.TheVariants.{Always}
use Rattle.tocmark_read_constructs.specs.Tables.{is_delimiter_byte, no_marks, is_blank_column, column_step, alignment_of, columns_step, columns_ended, behind_bar, alignments_of, bare_step, is_delimiter_row, is_bar, next_bar_from, next_bar, first_cell, cell_end, count_once, cell_count, trimmed_end, backslashes, header_columns, row_pushed, cell_pushed, row_put}
use Rattle.tocmark_read_constructs.specs.Blanks.{behind_blanks}
use Rattle.tocmark_laws.specs.PlainTables.{PlainColumn, dashes, barred, row_line, column_bytes, column_alignment}

-- ---- bars

-- a byte that neither ends a cell nor escapes its end
pub record IsInside (b : ℕ) : Type 0 where
  pub bar : (b == 124) ≡ false
  pub slash : (b == 92) ≡ false

abbrev pub AreInside : List ℕ → Type 0
AreInside xs = AllByRecursion IsInside xs

bar_found : (end place before : ℕ) (xs rest : List ℕ) → AreInside xs → (before == 92) ≡ false → place + length xs < 2 ^ 64 → next_bar_from end place before (xs ++ 124 ∷ rest) ≡ place + length xs
unfolding is_bar
bar_found end place before [] rest h k fits = let same : place ≡ place + 0 = omega arith in rw k same
bar_found end place before (x ∷ xs) rest h k fits =
    let next : plus place 1 ≡ place + 1 = omega arith in
    let far : place + 1 + length xs ≡ place + suc (length xs) = omega arith in
    rw ((h.0).bar) refl
    ∙ ap (λ p. next_bar_from end p x (xs ++ 124 ∷ rest)) next
    ∙ bar_found end (place + 1) x xs rest (h.1) (h.0).slash (omega arith)
    ∙ far

-- where a cell ends, after which is its bar
cell_ends : (text pre cell mid rest : List ℕ) (place end : ℕ) → text ≡ pre ++ ((cell ++ 124 ∷ mid) ++ rest) → place ≡ length pre → end ≡ length pre + length (cell ++ 124 ∷ mid) → AreInside cell → end < 2 ^ 64 → cell_end text end place ≡ Some (place + length cell)
unfolding cell_end
cell_ends text pre cell mid rest place end e at to h fits =
    let width : length (cell ++ 124 ∷ mid) ≡ length cell + suc (length mid) = length-append cell (124 ∷ mid) in
    let stands : bytes_between text place end ≡ cell ++ 124 ∷ mid = piece_between text pre (cell ++ 124 ∷ mid) rest place end e at to in
    let bar : next_bar text place end ≡ place + length cell = ap (next_bar_from end place 124) stands ∙ bar_found end place 124 cell mid h refl (omega (arith, at, to, width, fits)) in
    let before : nat_lt (place + length cell) end ≡ true = grind (arith, nat_tests) in
    rw (bar, before) refl

-- at the end of a row there is no cell
no_cell : (text pre rest : List ℕ) (end : ℕ) → text ≡ pre ++ rest → end ≡ length pre → end < 2 ^ 64 → cell_end text end end ≡ None
unfolding cell_end
no_cell text pre rest end e at fits =
    let none : bytes_between text end end ≡ [] = piece_between text pre [] rest end end e at (let q : end ≡ length pre + 0 = omega (arith, at) in q) in
    let bar : next_bar text end end ≡ end = ap (next_bar_from end end 124) none in
    let over : nat_lt end end ≡ false = grind (arith, nat_tests) in
    let behind : end ≤ behind_blanks text end = omega arith in
    let past : nat_lt (behind_blanks text end) end ≡ false = grind (arith, nat_tests) in
    rw (bar, over, past) refl

-- ---- the cells of a row

-- a block of a row
abbrev pub row_part : ℕ → BlockKind → ℕ → ℕ → Block
row_part depth k start end = record { depth = depth; kind = k; start = start; end = end; first = 0; last = 0; loose = false; list = None; task = None }

-- the blocks of cells from a place on
abbrev pub cell_blocks : ℕ → List (List ℕ) → List Block
cell_blocks at [] = []
cell_blocks at (c ∷ cs) = row_part 2 kind.TableCell at (at + length c) ∷ cell_blocks (at + length c + 1) cs

-- a page whose header was a paragraph of one line
abbrev pub header_page : Leaf → ℕ → ℕ → List Block → State
header_page l end number blocks = record {
  blocks = blocks;
  pieces = [];
  definitions = [];
  opened = [];
  quotes = [];
  leaf = l;
  end = end;
  line = number;
  kept = 1;
  header = Always;
  tried = 0;
  left = None;
  filled = 0;
}

-- after a cell are the others
pub next_cell : (text pre c others rest : List ℕ) → text ≡ pre ++ ((c ++ 124 ∷ others) ++ rest) → text ≡ (pre ++ (c ++ 124 ∷ [])) ++ (others ++ rest)
next_cell text pre c others rest t =
    t
    ∙ ap (λ (xs : List ℕ). pre ++ xs) (append_assoc c (124 ∷ others) rest ∙ sym (append_assoc c (124 ∷ []) (others ++ rest)))
    ∙ sym (append_assoc pre (c ++ 124 ∷ []) (others ++ rest))

one_pushed : (text : List ℕ) (l : Leaf) (e number end place bar : ℕ) (blocks : List Block) → cell_end text end place ≡ Some bar → bar + 1 < 2 ^ 64 → cell_pushed text end (header_page l e number blocks, place) ≡ (header_page l e number (blocks ++ row_part 2 kind.TableCell place bar ∷ []), bar + 1)
unfolding cell_pushed row_pushed
one_pushed text l e number end place bar blocks h fits =
    let next : plus bar 1 ≡ bar + 1 = omega arith in
    rw (h, next) refl

cells_pushed : (text pre rest : List ℕ) (l : Leaf) (e number end place : ℕ) (cells : List (List ℕ)) (blocks : List Block) → text ≡ pre ++ (barred cells ++ rest) → place ≡ length pre → end ≡ length pre + length (barred cells) → AllByRecursion AreInside cells → end < 2 ^ 64 → times (cell_pushed text end) (length cells) (header_page l e number blocks, place) ≡ (header_page l e number (blocks ++ cell_blocks place cells), end)
unfolding times
cells_pushed text pre rest l e number end place [] blocks t at to h fits =
    let same : place ≡ end = omega (arith, at, to) in
    ap (λ (bs : List Block). (header_page l e number bs, place)) (sym (append-nil blocks)) ∙ ap (λ (p : ℕ). (header_page l e number (blocks ++ []), p)) same
cells_pushed text pre rest l e number end place (c ∷ cs) blocks t at to h fits =
    let width : length (c ++ 124 ∷ barred cs) ≡ length c + suc (length (barred cs)) = length-append c (124 ∷ barred cs) in
    let bar : ℕ = place + length c in
    let longer : length (pre ++ (c ++ 124 ∷ [])) ≡ length pre + length c + 1 = grind (arith, length-append) in
    let more : text ≡ (pre ++ (c ++ 124 ∷ [])) ++ (barred cs ++ rest) = next_cell text pre c (barred cs) rest t in
    ap (times (cell_pushed text end) (length cs)) (one_pushed text l e number end place bar blocks (cell_ends text pre c (barred cs) rest place end t at to (h.0) fits) (omega (arith, at, to, width, fits)))
    ∙ cells_pushed text (pre ++ (c ++ 124 ∷ [])) rest l e number end (bar + 1) cs (blocks ++ row_part 2 kind.TableCell place bar ∷ []) more (omega (arith, at, longer)) (omega (arith, to, width, longer)) (h.1) fits
    ∙ ap (λ (bs : List Block). (header_page l e number bs, end)) (append_assoc blocks (row_part 2 kind.TableCell place bar ∷ []) (cell_blocks (bar + 1) cs))

-- the first cell is after the bar in front
first_behind : (text pre rest : List ℕ) (start : ℕ) → text ≡ pre ++ 124 ∷ rest → start ≡ length pre → start + 1 < 2 ^ 64 → first_cell text start ≡ start + 1
unfolding first_cell
first_behind text pre rest start t at fits =
    let first : byte_at text start ≡ 124 = ap (λ (xs : List ℕ). byte_at xs start) t ∙ byte_behind pre rest 124 start at in
    let next : plus start 1 ≡ start + 1 = omega (arith, fits) in
    rw (first, next) refl

-- a row that is in a text, as the blocks of the row and its cells
pub row_is_put : (text pre rest : List ℕ) (k : BlockKind) (l : Leaf) (e number start end : ℕ) (cells : List (List ℕ)) (blocks : List Block) → text ≡ pre ++ (row_line cells ++ rest) → start ≡ length pre → end ≡ length pre + length (row_line cells) → AllByRecursion AreInside cells → end < 2 ^ 64 → row_put text k (length cells) start end (header_page l e number blocks) ≡ header_page l e number (blocks ++ row_part 1 k start end ∷ cell_blocks (start + 1) cells)
unfolding row_put row_pushed
row_is_put text pre rest k l e number start end cells blocks t at to h fits =
    let longer : length (pre ++ 124 ∷ []) ≡ length pre + 1 = length-append pre (124 ∷ []) in
    let more : text ≡ (pre ++ 124 ∷ []) ++ (barred cells ++ rest) = t ∙ sym (append_assoc pre (124 ∷ []) (barred cells ++ rest)) in
    let page : State = header_page l e number (blocks ++ row_part 1 k start end ∷ []) in
    ap (λ p. (times (cell_pushed text end) (length cells) (page, p)).0) (first_behind text pre (barred cells ++ rest) start t at (omega (arith, to, at, fits)))
    ∙ ap (λ (p : State × ℕ). p.0) (cells_pushed text (pre ++ 124 ∷ []) rest l e number end (start + 1) cells (blocks ++ row_part 1 k start end ∷ []) more (omega (arith, at, longer)) (omega (arith, to, longer)) h fits)
    ∙ ap (header_page l e number) (append_assoc blocks (row_part 1 k start end ∷ []) (cell_blocks (start + 1) cells))

counted : (text pre rest : List ℕ) (end place k n : ℕ) (cells : List (List ℕ)) → text ≡ pre ++ (barred cells ++ rest) → place ≡ length pre → end ≡ length pre + length (barred cells) → AllByRecursion AreInside cells → end < 2 ^ 64 → length cells < k → n + length cells < 2 ^ 64 → (repeated (count_once text end) k place n).0 ≡ n + length cells
unfolding count_once
counted text pre rest end place k n [] t at to h fits some room =
    let same : place ≡ end = omega (arith, at, to) in
    let all : n ≡ n + 0 = omega arith in
    let none : cell_end text end place ≡ None = ap (cell_end text end) same ∙ no_cell text pre rest end t (omega (arith, to)) fits in
    let once : (n, None) ≡ count_once text end place n = rw none refl in
    ap (λ (p : ℕ × ℕ). p.0) (repeated_stop (count_once text end) k place n n (omega (arith, some)) once) ∙ all
counted text pre rest end place k n (c ∷ cs) t at to h fits some room =
    let width : length (c ++ 124 ∷ barred cs) ≡ length c + suc (length (barred cs)) = length-append c (124 ∷ barred cs) in
    let bar : ℕ = place + length c in
    let longer : length (pre ++ (c ++ 124 ∷ [])) ≡ length pre + length c + 1 = grind (arith, length-append) in
    let more : text ≡ (pre ++ (c ++ 124 ∷ [])) ++ (barred cs ++ rest) = next_cell text pre c (barred cs) rest t in
    let ends : cell_end text end place ≡ Some bar = cell_ends text pre c (barred cs) rest place end t at to (h.0) fits in
    let next : plus bar 1 ≡ bar + 1 = omega (arith, at, to, width, fits) in
    let one : plus n 1 ≡ n + 1 = omega (arith, room) in
    let once : (n + 1, Some (bar + 1)) ≡ count_once text end place n = rw (ends, next, one) refl in
    let far : n + 1 + length cs ≡ n + suc (length cs) = omega arith in
    ap (λ (p : ℕ × ℕ). p.0) (repeated_more (count_once text end) k place (bar + 1) n (n + 1) (omega (arith, some)) once)
    ∙ counted text (pre ++ (c ++ 124 ∷ [])) rest end (bar + 1) (k - 1) (n + 1) cs more (omega (arith, at, longer)) (omega (arith, to, width, longer)) (h.1) fits (omega (arith, some)) (omega (arith, room))
    ∙ far

fewer : (cells : List (List ℕ)) → length cells ≤ length (barred cells)
fewer [] = omega arith
fewer (c ∷ cs) =
    let width : length (c ++ 124 ∷ barred cs) ≡ length c + suc (length (barred cs)) = length-append c (124 ∷ barred cs) in
    let less : length cs ≤ length (barred cs) = fewer cs in
    omega (arith, width, less)

-- how many cells such a row has
pub cells_counted : (text pre rest : List ℕ) (start end : ℕ) (cells : List (List ℕ)) → text ≡ pre ++ (row_line cells ++ rest) → start ≡ length pre → end ≡ length pre + length (row_line cells) → AllByRecursion AreInside cells → end < 2 ^ 64 → cell_count text start end ≡ length cells
cells_counted text pre rest start end cells t at to h fits =
    let longer : length (pre ++ 124 ∷ []) ≡ length pre + 1 = length-append pre (124 ∷ []) in
    let more : text ≡ (pre ++ 124 ∷ []) ++ (barred cells ++ rest) = t ∙ sym (append_assoc pre (124 ∷ []) (barred cells ++ rest)) in
    let less : length cells ≤ length (barred cells) = fewer cells in
    let all : length text ≡ length pre + suc (length (barred cells) + length rest) = ap length t ∙ length-append pre (124 ∷ (barred cells ++ rest)) ∙ ap (λ n. length pre + suc n) (length-append (barred cells) rest) in
    let none : 0 + length cells ≡ length cells = omega arith in
    ap (λ p. (repeated (count_once text end) (length text) p 0).0) (first_behind text pre (barred cells ++ rest) start t at (omega (arith, to, at, fits)))
    ∙ counted text (pre ++ 124 ∷ []) rest end (start + 1) (length text) 0 cells more (omega (arith, at, longer)) (omega (arith, to, longer)) h fits (omega (arith, less, all)) (omega (arith, less, to, fits))
    ∙ none

-- ---- the header

-- a row ends with a bar
ends_in_bar : (pre : List ℕ) (cells : List (List ℕ)) → (body : List ℕ) × (pre ++ 124 ∷ barred cells ≡ body ++ 124 ∷ [])
ends_in_bar pre [] = (pre, refl)
ends_in_bar pre (c ∷ cs) =
    let more = ends_in_bar (pre ++ 124 ∷ c) cs in
    (more.0, sym (append_assoc pre (124 ∷ c) (124 ∷ barred cs)) ∙ more.1)

none_behind : (p : ℕ → Bool) (xs body : List ℕ) → xs ≡ body ++ 124 ∷ [] → p 124 ≡ false → length (take_while p (reverse xs)) ≡ 0
none_behind p xs body e h = ap (λ (ys : List ℕ). length (take_while p (reverse ys))) e ∙ rw (reverse-append body (124 ∷ []), h) refl

abbrev header_from : List ℕ → ℕ → ℕ → ℕ → ℕ
header_from text start end last = if nat_lt (next_bar text start last) last && (backslashes (bytes_between text start last) % 2 == 0) then cell_count text start end else 0

even_none : (n : ℕ) → n ≡ 0 → (n % 2 == 0) ≡ true
even_none n e = ap (λ m. m % 2 == 0) e

-- how many columns such a row has as a header
pub header_counted : (text pre rest : List ℕ) (start end : ℕ) (cells : List (List ℕ)) → text ≡ pre ++ (row_line cells ++ rest) → start ≡ length pre → end ≡ length pre + length (row_line cells) → AllByRecursion AreInside cells → end < 2 ^ 64 → header_columns text start end ≡ length cells
unfolding header_columns is_bar
header_counted text pre rest start end cells t at to h fits =
    let row : List ℕ = row_line cells in
    let ends = ends_in_bar [] cells in
    let stands : bytes_between text start end ≡ row = piece_between text pre row rest start end t at to in
    let whole : end - 0 ≡ end = omega arith in
    let last : trimmed_end text start end ≡ end =
    ap (λ (xs : List ℕ). end - length (take_while (λ b. (b == 32) || (b == 9)) (reverse xs))) stands
    ∙ ap (λ n. end - n) (none_behind (λ b. (b == 32) || (b == 9)) row (ends.0) (ends.1) refl)
    ∙ whole
    in
    let bar : next_bar text start end ≡ start = ap (next_bar_from end start 124) stands in
    let before : nat_lt start end ≡ true = grind (arith, nat_tests) in
    let slashes : backslashes (bytes_between text start end) ≡ 0 = ap (λ (xs : List ℕ). length (take_while (λ b. b == 92) (reverse xs))) stands ∙ none_behind (λ b. b == 92) row (ends.0) (ends.1) refl in
    let even : (backslashes (bytes_between text start end) % 2 == 0) ≡ true = even_none (backslashes (bytes_between text start end)) slashes in
    ap (header_from text start end) last ∙ rw (bar, before, even) (cells_counted text pre rest start end cells t at to h fits)

-- ---- the delimiter row

spaces_skipped : (found : List Alignment) (l r d : Bool) (k : ℕ) (rest : List ℕ) → fold columns_step (found, record no_marks { left = l; right = r; dash = d }) (replicate k 32 ++ rest) ≡ fold columns_step (found, record no_marks { left = l; right = r; dash = d }) rest
unfolding columns_step column_step
spaces_skipped found l r d zero rest = refl
spaces_skipped found l r d (suc k) rest = spaces_skipped found l r d k rest

dashes_skipped : (found : List Alignment) (l : Bool) (k : ℕ) (rest : List ℕ) → fold columns_step (found, record no_marks { left = l; right = false; dash = true }) (replicate k 45 ++ rest) ≡ fold columns_step (found, record no_marks { left = l; right = false; dash = true }) rest
unfolding columns_step column_step
dashes_skipped found l zero rest = refl
dashes_skipped found l (suc k) rest = dashes_skipped found l k rest

-- whether a column has a colon in front, and one after
abbrev has_left : Alignment → Bool
has_left align.None = false
has_left align.Left = true
has_left align.Right = false
has_left align.Center = true

abbrev has_right : Alignment → Bool
has_right align.None = false
has_right align.Left = false
has_right align.Right = true
has_right align.Center = true

aligned : (a : Alignment) → alignment_of (record no_marks { left = has_left a; right = has_right a; dash = true }) ≡ a
unfolding alignment_of
aligned align.None = refl
aligned align.Left = refl
aligned align.Right = refl
aligned align.Center = refl

marked : (found : List Alignment) (a : Alignment) (n : ℕ) (rest : List ℕ) → fold columns_step (found, no_marks) (dashes a n ++ rest) ≡ fold columns_step (found, record no_marks { left = has_left a; right = has_right a; dash = true }) rest
unfolding columns_step column_step is_blank_column
marked found align.None n rest = dashes_skipped found false n rest
marked found align.Left n rest = dashes_skipped found true n rest
marked found align.Right n rest = ap (fold columns_step (found, record no_marks { left = false; right = false; dash = true })) (append_assoc (replicate n 45) (58 ∷ []) rest) ∙ dashes_skipped found false n (58 ∷ rest)
marked found align.Center n rest = ap (fold columns_step (found, record no_marks { left = true; right = false; dash = true })) (append_assoc (replicate n 45) (58 ∷ []) rest) ∙ dashes_skipped found true n (58 ∷ rest)

bar_taken : (found : List Alignment) (a : Alignment) (rest : List ℕ) → fold columns_step (found, record no_marks { left = has_left a; right = has_right a; dash = true }) (124 ∷ rest) ≡ fold columns_step (found ++ a ∷ [], no_marks) rest
unfolding columns_step
bar_taken found a rest = ap (λ x. fold columns_step (found ++ x ∷ [], no_marks) rest) (aligned a)

-- the parts of a column, and its bar
parted : (c : PlainColumn) (rest : List ℕ) → column_bytes c ++ 124 ∷ rest ≡ replicate c.before 32 ++ (dashes c.alignment c.more ++ (replicate c.behind 32 ++ 124 ∷ rest))
parted c rest =
    append_assoc (replicate c.before 32) (dashes c.alignment c.more ++ replicate c.behind 32) (124 ∷ rest)
    ∙ ap (λ (xs : List ℕ). replicate c.before 32 ++ xs) (append_assoc (dashes c.alignment c.more) (replicate c.behind 32) (124 ∷ rest))

column_read : (found : List Alignment) (c : PlainColumn) (rest : List ℕ) → fold columns_step (found, no_marks) (column_bytes c ++ 124 ∷ rest) ≡ fold columns_step (found ++ c.alignment ∷ [], no_marks) rest
column_read found c rest =
    ap (fold columns_step (found, no_marks)) (parted c rest)
    ∙ spaces_skipped found false false false c.before (dashes c.alignment c.more ++ (replicate c.behind 32 ++ 124 ∷ rest))
    ∙ marked found c.alignment c.more (replicate c.behind 32 ++ 124 ∷ rest)
    ∙ spaces_skipped found (has_left c.alignment) (has_right c.alignment) true c.behind (124 ∷ rest)
    ∙ bar_taken found c.alignment rest

columns_read : (found : List Alignment) (cs : List PlainColumn) → fold columns_step (found, no_marks) (barred (map column_bytes cs)) ≡ (found ++ map column_alignment cs, no_marks)
columns_read found [] = ap (λ (xs : List Alignment). (xs, no_marks)) (sym (append-nil found))
columns_read found (c ∷ cs) =
    column_read found c (barred (map column_bytes cs))
    ∙ columns_read (found ++ c.alignment ∷ []) cs
    ∙ ap (λ (xs : List Alignment). (xs, no_marks)) (append_assoc found (c.alignment ∷ []) (map column_alignment cs))

-- the alignments of such a row
pub alignments_read : (cs : List PlainColumn) → alignments_of (row_line (map column_bytes cs)) ≡ map column_alignment cs
unfolding alignments_of behind_bar columns_ended is_blank_column
alignments_read cs = ap columns_ended (columns_read [] cs)

-- ---- that it is one

all_then : (f : ℕ → Bool) (xs ys : List ℕ) → list_all f xs ≡ true → list_all f ys ≡ true → list_all f (xs ++ ys) ≡ true
all_then f [] ys h k = k
all_then f (x ∷ xs) ys h k = let two = both_true (f x) (list_all f xs) h in rw (two.0) (all_then f xs ys (two.1) k)

all_repeated : (f : ℕ → Bool) (b k : ℕ) → f b ≡ true → list_all f (replicate k b) ≡ true
all_repeated f b zero h = refl
all_repeated f b (suc k) h = rw h (all_repeated f b k h)

any_later : (f : ℕ → Bool) (xs ys : List ℕ) → list_any f ys ≡ true → list_any f (xs ++ ys) ≡ true
any_later f [] ys h = h
any_later f (x ∷ xs) ys h = or_second (f x) (list_any f (xs ++ ys)) (any_later f xs ys h)

dash_there : (a : Alignment) (n : ℕ) (rest : List ℕ) → list_any (λ b. b == 45) (dashes a n ++ rest) ≡ true
dash_there align.None n rest = refl
dash_there align.Left n rest = refl
dash_there align.Right n rest = refl
dash_there align.Center n rest = refl

all_dashes : (a : Alignment) (n : ℕ) → list_all is_delimiter_byte (dashes a n) ≡ true
unfolding is_delimiter_byte
all_dashes align.None n = all_repeated is_delimiter_byte 45 n refl
all_dashes align.Left n = all_repeated is_delimiter_byte 45 n refl
all_dashes align.Right n = all_then is_delimiter_byte (replicate n 45) (58 ∷ []) (all_repeated is_delimiter_byte 45 n refl) refl
all_dashes align.Center n = all_then is_delimiter_byte (replicate n 45) (58 ∷ []) (all_repeated is_delimiter_byte 45 n refl) refl

all_columns : (cs : List PlainColumn) → list_all is_delimiter_byte (barred (map column_bytes cs)) ≡ true
unfolding is_delimiter_byte
all_columns [] = refl
all_columns (c ∷ cs) =
    all_then is_delimiter_byte (column_bytes c) (124 ∷ barred (map column_bytes cs))
    (all_then is_delimiter_byte (replicate c.before 32) (dashes c.alignment c.more ++ replicate c.behind 32) (all_repeated is_delimiter_byte 32 c.before refl)
    (all_then is_delimiter_byte (dashes c.alignment c.more) (replicate c.behind 32) (all_dashes c.alignment c.more) (all_repeated is_delimiter_byte 32 c.behind refl)))
    (all_columns cs)

bare_spaces : (dash : Bool) (k : ℕ) (rest : List ℕ) → fold bare_step (dash, false) (replicate k 32 ++ rest) ≡ fold bare_step (dash, false) rest
unfolding bare_step
bare_spaces dash zero rest = refl
bare_spaces true (suc k) rest = bare_spaces true k rest
bare_spaces false (suc k) rest = bare_spaces false k rest

bare_dashes : (k : ℕ) (rest : List ℕ) → fold bare_step (true, false) (replicate k 45 ++ rest) ≡ fold bare_step (true, false) rest
unfolding bare_step
bare_dashes zero rest = refl
bare_dashes (suc k) rest = bare_dashes k rest

bare_marked : (a : Alignment) (n : ℕ) (rest : List ℕ) → fold bare_step (false, false) (dashes a n ++ rest) ≡ fold bare_step (true, false) rest
unfolding bare_step
bare_marked align.None n rest = bare_dashes n rest
bare_marked align.Left n rest = bare_dashes n rest
bare_marked align.Right n rest = ap (fold bare_step (true, false)) (append_assoc (replicate n 45) (58 ∷ []) rest) ∙ bare_dashes n (58 ∷ rest)
bare_marked align.Center n rest = ap (fold bare_step (true, false)) (append_assoc (replicate n 45) (58 ∷ []) rest) ∙ bare_dashes n (58 ∷ rest)

bare_bar : (rest : List ℕ) → fold bare_step (true, false) (124 ∷ rest) ≡ fold bare_step (false, false) rest
unfolding bare_step
bare_bar rest = refl

none_bare : (cs : List PlainColumn) → fold bare_step (false, false) (barred (map column_bytes cs)) ≡ (false, false)
none_bare [] = refl
none_bare (c ∷ cs) =
    let rest : List ℕ = barred (map column_bytes cs) in
    ap (fold bare_step (false, false)) (parted c rest)
    ∙ bare_spaces false c.before (dashes c.alignment c.more ++ (replicate c.behind 32 ++ 124 ∷ rest))
    ∙ bare_marked c.alignment c.more (replicate c.behind 32 ++ 124 ∷ rest)
    ∙ bare_spaces true c.behind (124 ∷ rest)
    ∙ bare_bar rest
    ∙ none_bare cs

delimits : (row : List ℕ) → list_all is_delimiter_byte row ≡ true → list_any (λ b. b == 124) row ≡ true → list_any (λ b. b == 45) row ≡ true → (fold bare_step (false, false) (behind_bar row)).1 ≡ false → is_delimiter_row row ≡ true
unfolding is_delimiter_row
delimits row all bar dash bare = rw (all, bar, dash, bare) refl

pub no_delimiters : (row : List ℕ) → list_all is_delimiter_byte row ≡ false → is_delimiter_row row ≡ false
unfolding is_delimiter_row
no_delimiters row h = rw h refl

-- such a row is a delimiter row
pub columns_delimit : (c : PlainColumn) (cs : List PlainColumn) → is_delimiter_row (row_line (map column_bytes (c ∷ cs))) ≡ true
unfolding is_delimiter_byte behind_bar
columns_delimit c cs =
    let rest : List ℕ = barred (map column_bytes cs) in
    let dash : list_any (λ b. b == 45) (column_bytes c ++ 124 ∷ rest) ≡ true =
    ap (list_any (λ b. b == 45)) (parted c rest)
    ∙ any_later (λ b. b == 45) (replicate c.before 32) (dashes c.alignment c.more ++ (replicate c.behind 32 ++ 124 ∷ rest)) (dash_there c.alignment c.more (replicate c.behind 32 ++ 124 ∷ rest))
    in
    delimits (row_line (map column_bytes (c ∷ cs))) (all_columns (c ∷ cs)) refl dash (ap (λ (p : Bool × Bool). p.1) (none_bare (c ∷ cs)))
