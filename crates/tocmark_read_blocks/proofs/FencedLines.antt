-- A line of open fenced code at the top is taken as it is, if its first byte is no fence's.
use Rattle.std.proofs.Common.{◌≡◌, ℕ, zero, suc, ◌+◌, ◌-◌, ◌%◌, ◌<◌, Bool, true, false, not, ◌==◌, ◌&&◌, ◌||◌, cond, if◌then◌else◌, nat_lt, nat_le, List, [], ◌∷◌, ◌++◌, length, take, drop, take_while, replicate, unwrap_or, Option, Some, None, min, refl, ap, sym, ◌∙◌, arith}
use Rattle.std.proofs.lemmas.Bool.Decides.{nat_tests}
use Rattle.std.proofs.lemmas.List.{length-drop}
use Rattle.std.proofs.lemmas.List.Folds.{find-append, length-prefix_len}
use Rattle.std.proofs.lemmas.Option.{none-some}
use Rattle.std.specs.List.{find, prefix_len}
use Rattle.std.specs.Option.{option_or}
use Rattle.tocmark_read_scan.specs.Basic.{plus, bytes_between}
use Rattle.tocmark_read_lines.specs.Cells.{cell, filled, cells_of, cell_place, first_cursor, indent_of, ink_from, run_of}
use Rattle.tocmark_read_lines.specs.Containers.{matched, touched_from}
use Rattle.tocmark_read_lines.specs.Marks.{closes_fence}
use Rattle.tocmark_read_lines.specs.declared.beginnings.Fence.{Fence}
use Rattle.tocmark_read_lines.specs.declared.cell.Cell.{Cell}
use Rattle.tocmark_read_lines.specs.declared.cell.Cursor.{Cursor}
use Rattle.tocmark_read_lines.specs.declared.container.Opened.{Opened}
use Rattle.tocmark_read_lines.specs.declared.line.Line.{Line}
use Rattle.tocmark_read_page.specs.Pieces.{piece_of, is_split, code_piece, keeps_line}
use Rattle.tocmark_read_page.specs.Leaves.{is_table}
use Rattle.tocmark_read_blocks.specs.Leaves.{leaf_turn}
use Rattle.tocmark_read_page.specs.declared.piece.Piece.{Piece}
use Rattle.tocmark_read_page.specs.declared.leaf.Leaf.{Leaf}
use Rattle.tocmark_read_page.specs.declared.leaf.Leaf.TheVariants as leaf
use Rattle.tocmark_read_blocks.specs.declared.leaf.Turn.TheVariants as turn
use Rattle.tocmark_read_page.specs.declared.line_start.Known.{Known}
use Rattle.tocmark_read_page.specs.Pages.{State, piece_taken}
use Rattle.tocmark_read_page.specs.declared.line_start.LineStart.{LineStart}
use Rattle.tocmark_read_blocks.specs.Codes.{code_taken, html_ended, html_ended_as}
use Rattle.tocmark_read_blocks.specs.Blocks.{turn_of, turn_in, touched, turn_taken_in, taken_at_in, cells_taken_in, line_taken_in}
use Rattle.tocmark_read_blocks.proofs.Steps.{never}

-- a byte that is neither a space nor a tab
abbrev pub is_ink : ℕ → Bool
is_ink b = not (b == 32) && not (b == 9)

-- a column that is no space
abbrev is_marked : Cell → Bool
is_marked c = not (c.byte == 32)

-- a column that is a space
abbrev is_space : Cell → Bool
is_space c = c.byte == 32

-- the first column that is no space has this byte
record BeginsWith (b : ℕ) (cells : List Cell) : Type 0 where
  column : Cell
  first : find is_marked cells ≡ Some column
  byte : column.byte ≡ b

spaces_only : (n at : ℕ) → find is_marked (replicate n (cell 32 at)) ≡ None
spaces_only zero at = refl
spaces_only (suc n) at = spaces_only n at

stays : (cells : List Cell) (c : Cell) (b at : ℕ) → find is_marked cells ≡ Some c → find is_marked (filled cells b at) ≡ Some c
unfolding filled
stays cells c b at h = by_test (b == 9)
  where
    longer : (more : List Cell) → find is_marked (cells ++ more) ≡ Some c
    longer more = find-append is_marked cells more ∙ ap (λ o. option_or o (find is_marked more)) h

    by_test : (k : Bool) → find is_marked (if k then cells ++ replicate (4 - length cells % 4) (cell 32 at) else cells ++ cell b at ∷ []) ≡ Some c
    by_test true = longer (replicate (4 - length cells % 4) (cell 32 at))
    by_test false = longer (cell b at ∷ [])

-- columns after the first that is no space change nothing
kept : (cells : List Cell) (c : Cell) (at : ℕ) (bytes : List ℕ) → find is_marked cells ≡ Some c → find is_marked (cells_of cells at bytes) ≡ Some c
kept cells c at [] h = h
kept cells c at (b ∷ bs) h = kept (filled cells b at) c (plus at 1) bs (stays cells c b at h)

begins_behind : (cells : List Cell) (at : ℕ) (bytes : List ℕ) (b : ℕ) → find is_marked cells ≡ None → find is_ink bytes ≡ Some b → BeginsWith b (cells_of cells at bytes)
unfolding filled
begins_behind cells at [] b none h = absurd (none-some b h)
begins_behind cells at (x ∷ xs) b none h =
    by_test (λ more n f. begins_behind more (plus at 1) xs b n f) (x == 32) (x == 9) refl refl h
  where
    More : Type 0
    More = (more : List Cell) → find is_marked more ≡ None → find is_ink xs ≡ Some b → BeginsWith b (cells_of more (plus at 1) xs)

    longer : (more : List Cell) → find is_marked (cells ++ more) ≡ find is_marked more
    longer more = find-append is_marked cells more ∙ ap (λ o. option_or o (find is_marked more)) none

    one : (k : Bool) → (x == 32) ≡ k → find is_marked (cells ++ cell x at ∷ []) ≡ cond (not k) (Some (cell x at)) None
    one k e = longer (cell x at ∷ []) ∙ ap (λ t. cond (not t) (Some (cell x at)) None) e

    spaces : List Cell
    spaces = replicate (4 - length cells % 4) (cell 32 at)

    by_test : More → (space tab : Bool) → (x == 32) ≡ space → (x == 9) ≡ tab → cond (not space && not tab) (Some x) (find is_ink xs) ≡ Some b → BeginsWith b (cells_of (if tab then cells ++ spaces else cells ++ cell x at ∷ []) (plus at 1) xs)
    by_test more true true s t f = more (cells ++ spaces) (longer spaces ∙ spaces_only (4 - length cells % 4) at) f
    by_test more false true s t f = more (cells ++ spaces) (longer spaces ∙ spaces_only (4 - length cells % 4) at) f
    by_test more true false s t f = more (cells ++ cell x at ∷ []) (one true s) f
    by_test more false false s t f = record {
      column = cell x at;
      first = kept (cells ++ cell x at ∷ []) (cell x at) (plus at 1) xs (one false s);
      byte = ap (λ (o : Option ℕ). unwrap_or o x) f;
    }

-- where the first column is that is no space
record StandsAt (c : Cell) (cells : List Cell) : Type 0 where
  behind : List Cell
  rest : drop (prefix_len is_space cells) cells ≡ c ∷ behind
  ink : (c.byte == 32) ≡ false

stands : (cells : List Cell) (c : Cell) → find is_marked cells ≡ Some c → StandsAt c cells
stands [] c h = absurd (none-some c h)
stands (d ∷ ds) c h = by_test (stands ds c) (d.byte == 32) refl h
  where
    one_more : (n : ℕ) → drop (1 + n) (d ∷ ds) ≡ drop n ds
    one_more n = let e : 1 + n ≡ suc n = omega arith in ap (λ k. drop k (d ∷ ds)) e

    by_test : (find is_marked ds ≡ Some c → StandsAt c ds) → (k : Bool) → (d.byte == 32) ≡ k → cond (not k) (Some d) (find is_marked ds) ≡ Some c → StandsAt c (d ∷ ds)
    by_test later true e f =
        let s = later f in
        record {
          behind = s.behind;
          rest = ap (λ k. drop (cond k (1 + prefix_len is_space ds) 0) (d ∷ ds)) e ∙ one_more (prefix_len is_space ds) ∙ s.rest;
          ink = s.ink;
        }
    by_test later false e f =
        let same : d ≡ c = ap (λ (o : Option Cell). unwrap_or o d) f in
        record {
          behind = ds;
          rest = ap (λ k. drop (cond k (1 + prefix_len is_space ds) 0) (d ∷ ds)) e ∙ ap (λ (x : Cell). x ∷ ds) same;
          ink = sym (ap (λ (x : Cell). x.byte == 32) same) ∙ e;
        }

run_none : (cells : List Cell) (column b : ℕ) (c : Cell) (behind : List Cell) → drop column cells ≡ c ∷ behind → (c.byte == b) ≡ false → run_of cells column b ≡ 0
run_none cells column b c behind rest other =
    ap (λ (xs : List Cell). length (take_while (λ (x : Cell). x.byte == b) xs)) rest
    ∙ ap (λ k. length (take (cond k (1 + prefix_len (λ (x : Cell). x.byte == b) behind) 0) (c ∷ behind))) other

closes_far : (cells : List Cell) (cursor : Cursor) (fence : Fence) → nat_le (indent_of cursor) 3 ≡ false → closes_fence cells cursor fence ≡ false
unfolding closes_fence
closes_far cells cursor fence far = rw far refl

closes_near : (cells : List Cell) (cursor : Cursor) (fence : Fence) (c : Cell) (behind : List Cell) → drop cursor.ink cells ≡ c ∷ behind → (c.byte == 32) ≡ false → (c.byte == fence.byte) ≡ false → cursor.ink < 4 → closes_fence cells cursor fence ≡ false
unfolding closes_fence
closes_near cells cursor fence c behind rest ink other near =
    ap (λ k. nat_le (indent_of cursor) 3 && nat_le fence.count (run_of cells cursor.ink fence.byte) && k) more_left
    ∙ never (nat_le (indent_of cursor) 3 && nat_le fence.count (run_of cells cursor.ink fence.byte))
  where
    same : plus cursor.ink 0 ≡ cursor.ink
    same = omega (arith, near)

    past_none : ink_from cells (plus cursor.ink (run_of cells cursor.ink fence.byte)) ≡ cursor.ink
    past_none =
        ap (λ n. ink_from cells (plus cursor.ink n)) (run_none cells cursor.ink fence.byte c behind rest other)
        ∙ ap (ink_from cells) same
        ∙ ap (plus cursor.ink) (run_none cells cursor.ink 32 c behind rest ink)
        ∙ same

    left : length cells - cursor.ink ≡ suc (length behind)
    left = sym (length-drop cursor.ink cells) ∙ ap length rest

    more_left : nat_le (length cells) (ink_from cells (plus cursor.ink (run_of cells cursor.ink fence.byte))) ≡ false
    more_left = ap (nat_le (length cells)) past_none ∙ grind (arith, nat_tests, left)

-- another byte than the fence's closes none
closes_none : (cells : List Cell) (fence : Fence) (b : ℕ) → BeginsWith b cells → (b == fence.byte) ≡ false → closes_fence cells (first_cursor cells) fence ≡ false
unfolding first_cursor
closes_none cells fence b begins other = by_test (nat_le n 3) refl
  where
    n : ℕ
    n = prefix_len is_space cells

    at : StandsAt begins.column cells
    at = stands cells begins.column begins.first

    counted : ink_from cells 0 ≡ plus 0 n
    counted = ap (plus 0) (length-prefix_len is_space cells)

    by_test : (k : Bool) → nat_le n 3 ≡ k → closes_fence cells (record { column = 0; ink = ink_from cells 0 }) fence ≡ false
    by_test false e =
        closes_far cells (record { column = 0; ink = ink_from cells 0 }) fence
        (ap (λ i. nat_le (i - 0) 3) counted ∙ grind (arith, nat_tests, e))
    by_test true e =
        let near : n < 4 = grind (arith, nat_tests, e) in
        let here : ink_from cells 0 ≡ n = counted ∙ omega (arith, near) in
        closes_near cells (record { column = 0; ink = ink_from cells 0 }) fence begins.column at.behind
        (ap (λ i. drop i cells) here ∙ at.rest) at.ink
        (ap (λ i. i == fence.byte) begins.byte ∙ other)
        (rw here near)

first_kept : (c : Cell) (cs : List Cell) (at : ℕ) (bytes : List ℕ) (end : ℕ) → cell_place (cells_of (c ∷ cs) at bytes) 0 end ≡ c.at
unfolding filled
first_kept c cs at [] end = refl
first_kept c cs at (b ∷ bs) end = by_test (λ more. first_kept c more (plus at 1) bs end) (b == 9)
  where
    by_test : ((more : List Cell) → cell_place (cells_of (c ∷ more) (plus at 1) bs) 0 end ≡ c.at) → (k : Bool) → cell_place (cells_of (if k then (c ∷ cs) ++ replicate (4 - length (c ∷ cs) % 4) (cell 32 at) else (c ∷ cs) ++ cell b at ∷ []) (plus at 1) bs) 0 end ≡ c.at
    by_test more true = more (cs ++ replicate (4 - length (c ∷ cs) % 4) (cell 32 at))
    by_test more false = more (cs ++ cell b at ∷ [])

-- the first column is at the first byte
first_place : (at : ℕ) (bytes : List ℕ) (b end : ℕ) → find is_ink bytes ≡ Some b → cell_place (cells_of [] at bytes) 0 end ≡ at
unfolding filled
first_place at [] b end h = absurd (none-some b h)
first_place at (x ∷ xs) b end h = by_test (x == 9)
  where
    by_test : (k : Bool) → cell_place (cells_of (if k then [] ++ replicate (4 - length {A = Cell} [] % 4) (cell 32 at) else [] ++ cell x at ∷ []) (plus at 1) xs) 0 end ≡ at
    by_test true = first_kept (cell 32 at) (replicate 3 (cell 32 at)) (plus at 1) xs end
    by_test false = first_kept (cell x at) [] (plus at 1) xs end

pub untouched : (end line : ℕ) (quotes : List ℕ) (opened : List Opened) → touched_from 0 end line quotes opened ≡ opened
untouched end line [] opened = refl
untouched end line (q ∷ qs) opened =
    let all : nat_le 0 q ≡ true = grind (arith, nat_tests) in
    rw all refl

-- the front of a line, in no container
abbrev pub at_front : List Cell → LineStart
at_front cells = record { cursor = first_cursor cells; depth = 0 }

none_of : (n : ℕ) → plus 0 (min 0 n) ≡ 0
none_of n = omega arith

takes_all : (known : Known) (text : List ℕ) (cells : List Cell) (line : Line) (s : State) (fence : Fence) → s.leaf ≡ leaf.Fenced fence → s.opened ≡ [] → fence.indent ≡ 0 → closes_fence cells (first_cursor cells) fence ≡ false → turn_in known text cells line (at_front cells) s ≡ turn.Takes 0
unfolding turn_in turn_of is_table leaf_turn first_cursor
takes_all known text cells line s fence fenced top indent closes =
    rw (fenced, top, never known.syntax.footnotes, closes, indent) (ap (λ n. turn.Takes n) (none_of (indent_of (first_cursor cells))))

leaf_kept : (p : Piece) (line : Line) (s : State) → (piece_taken p line true s).leaf ≡ s.leaf
unfolding piece_taken
leaf_kept p line s = by_test (nat_lt 0 p.spaces || nat_lt p.start p.next)
  where
    by_test : (k : Bool) → (if◌then◌else◌ {A = State} k (record s { pieces = s.pieces ++ p ∷ [] }) s).leaf ≡ s.leaf
    by_test true = refl
    by_test false = refl

no_html : (rest : List ℕ) (s : State) (fence : Fence) → s.leaf ≡ leaf.Fenced fence → html_ended rest s ≡ s
unfolding html_ended
no_html rest s fence fenced = ap (λ l. html_ended_as l rest s) fenced

whole_piece : (cells : List Cell) (line : Line) → cell_place cells 0 line.end ≡ line.start → code_piece cells 0 line ≡ piece_of 0 line.start line.end line.next
unfolding code_piece is_split
whole_piece cells line place = ap (λ at. piece_of 0 at line.end line.next) place

keeps : (cells : List Cell) (l : Leaf) (fence : Fence) → l ≡ leaf.Fenced fence → keeps_line cells 0 l ≡ true
unfolding keeps_line
keeps cells l fence fenced = ap (λ k. keeps_line cells 0 k) fenced

code_whole : (text : List ℕ) (cells : List Cell) (line : Line) (s : State) (fence : Fence) → s.leaf ≡ leaf.Fenced fence → cell_place cells 0 line.end ≡ line.start → code_taken text cells 0 line s ≡ piece_taken (piece_of 0 line.start line.end line.next) line true s
unfolding code_taken
code_whole text cells line s fence fenced place =
    ap (λ (p : Piece). html_ended (bytes_between text p.start p.end) (piece_taken p line (keeps_line cells 0 s.leaf) s)) (whole_piece cells line place)
    ∙ ap (λ k. html_ended (bytes_between text line.start line.end) (piece_taken whole line k s)) (keeps cells s.leaf fence fenced)
    ∙ no_html (bytes_between text line.start line.end) (piece_taken whole line true s) fence (leaf_kept whole line s ∙ fenced)
  where
    whole : Piece
    whole = piece_of 0 line.start line.end line.next

fenced_line : (known : Known) (text : List ℕ) (line : Line) (s : State) (fence : Fence) (b : ℕ) → s.leaf ≡ leaf.Fenced fence → s.opened ≡ [] → fence.indent ≡ 0 → find is_ink (bytes_between text line.start line.end) ≡ Some b → (b == fence.byte) ≡ false → line_taken_in known text s line ≡ piece_taken (piece_of 0 line.start line.end line.next) line true s
unfolding line_taken_in cells_taken_in touched
fenced_line known text line s fence b fenced top indent ink other =
    ap (λ (f : ℕ × Cursor). taken_at_in known text cells line (record { cursor = f.1; depth = f.0 }) (record s { opened = touched_from (f.0) line.end line.number s.quotes s.opened })) in_none
    ∙ ap (λ (o : List Opened). taken_at_in known text cells line (at_front cells) (record s { opened = o })) (untouched line.end line.number s.quotes s.opened)
    ∙ ap (λ t. turn_taken_in known t text cells line (at_front cells) s) (takes_all known text cells line s fence fenced top indent closes)
    ∙ code_whole text cells line s fence fenced (first_place line.start bytes b line.end ink)
  where
    bytes : List ℕ
    bytes = bytes_between text line.start line.end

    cells : List Cell
    cells = cells_of [] line.start bytes

    in_none : matched cells s.opened s.quotes ≡ (0, first_cursor cells)
    in_none = ap (λ (o : List Opened). matched cells o s.quotes) top

    closes : closes_fence cells (first_cursor cells) fence ≡ false
    closes = closes_none cells fence b (begins_behind [] line.start bytes b refl ink) other

-- no container is open
pub none_open : (opened : List Opened) → length opened ≡ 0 → opened ≡ []
none_open [] h = refl
none_open (o ∷ os) h = absurd (omega (arith, h))

-- the same, by the tests of the code
pub fenced_by_tests : (known : Known) (text : List ℕ) (line : Line) (s : State) (fence : Fence) (b : ℕ) → s.leaf ≡ leaf.Fenced fence → length s.opened ≡ 0 → fence.indent ≡ 0 → find is_ink (bytes_between text line.start line.end) ≡ Some b → not (b == fence.byte) ≡ true → line_taken_in known text s line ≡ piece_taken (piece_of 0 line.start line.end line.next) line true s
fenced_by_tests known text line s fence b fenced top indent ink other =
    fenced_line known text line s fence b fenced (none_open s.opened top) indent ink (by_test (b == fence.byte) other)
  where
    by_test : (k : Bool) → not k ≡ true → k ≡ false
    by_test false h = refl
    by_test true h = sym h
