-- The lines of a text, an empty line, and another text in an item: the list is loose.
use Rattle.std.proofs.Common.{◌≡◌, ℕ, suc, ◌+◌, ◌-◌, ◌*◌, ◌^◌, ◌<◌, ◌≤◌, Bool, true, false, not, ◌==◌, ◌||◌, cond, if◌then◌else◌, nat_lt, nat_le, List, [], ◌∷◌, ◌++◌, length, map, append_assoc, refl, ap, sym, subst, ◌∙◌, arith, length-append}
use Rattle.std.specs.List.{AllByRecursion, fold, list_any}
use Rattle.std.proofs.lemmas.Bool.Decides.{nat_tests}
use Rattle.std.proofs.lemmas.List.{length-map}
use Rattle.std.proofs.lemmas.List.Folds.{length-prefix_len}
use Rattle.tocmark_read_scan.specs.Basic.{plus, bytes_between}
use Rattle.tocmark_read_scan.specs.declared.syntax.TheConstants.{CORE}
use Rattle.tocmark_read_lines.specs.Cells.{bytes_of, cells_of, run_of, first_cursor}
use Rattle.tocmark_read_lines.specs.Containers.{raised_at, stopped, passed, matched, touched_from, container_at}
use Rattle.tocmark_read_lines.specs.Lines.{ends_here, line_stop, line, lines_from, lines_of}
use Rattle.tocmark_read_lines.specs.Marks.{tail_of}
use Rattle.tocmark_read_lines.specs.declared.cell.Cell.{Cell}
use Rattle.tocmark_read_lines.specs.declared.cell.Cursor.{Cursor}
use Rattle.tocmark_read_lines.specs.declared.container.Container.{Container}
use Rattle.tocmark_read_lines.specs.declared.container.Container.TheVariants as container
use Rattle.tocmark_read_lines.specs.declared.container.ItemStart.{ItemStart}
use Rattle.tocmark_read_lines.specs.declared.container.Opened.{Opened}
use Rattle.tocmark_read_lines.specs.declared.line.Line.{Line}
use Rattle.tocmark_read_lines.proofs.Columns.{run_asked, bytes_kept, plain_cells}
use Rattle.tocmark_read_page.specs.Pages.{State, first_page, is_quote, closed_to}
use Rattle.tocmark_read_page.specs.declared.leaf.Leaf.TheVariants as leaf
use Rattle.tocmark_read_page.specs.declared.page.Block.{Block}
use Rattle.tocmark_read_page.specs.declared.piece.Piece.{Piece}
use Rattle.tocmark_read_constructs.specs.Metadata.{known_of}
use Rattle.tocmark_read_blocks.specs.Blocks.{core_known, turn_of, cells_taken_in, line_taken_in, page_in, blocks_in}
use Rattle.tocmark_read_blocks.specs.Leaves.{leaf_turn}
use Rattle.tocmark_read_blocks.specs.declared.leaf.Turn.TheVariants as turn
use Rattle.tocmark_text_laws.specs.Items.{ItemMark, IsItemMark, is_end, item_front, item_text, BeginsItem, first_line, first_number, is_break, marker_bytes, IsItem}
use Rattle.tocmark_text_laws.specs.Lines.{IsLine}
use Rattle.tocmark_text_laws.specs.Quoted.{ListFrom, Item, Node, none, more, Told, told, Trees, read_trees}
use Rattle.tocmark_text_laws.specs.Sequence.{after_lines, IsSequence, trees_joined}
use Rattle.tocmark_text_laws.specs.ListEnds.{begins_at_margin, item_mark, goes_into}
use Rattle.tocmark_text_laws.specs.NearMargin.{begins_near_margin, AListEndsNearMarginInALooseItem}
use Rattle.tocmark_text_laws.specs.Loose.{begins_blank, MarksMakeALooseItem, AListEndsInALooseItem}
use Rattle.tocmark_text_laws.proofs.Endings.{lines-end}
use Rattle.tocmark_text_laws.proofs.Leaves.{is_core}
use Rattle.tocmark_text_laws.proofs.Kept.{line_core}
use Rattle.tocmark_text_laws.proofs.Shut.{closed_shut}
use Rattle.tocmark_text_laws.proofs.Sorted.{quotes_of, containers}
use Rattle.tocmark_text_laws.proofs.NestRun.{After, any, lines_few, all_lines}
use Rattle.tocmark_text_laws.proofs.Ranged.{Ascend, lines_ascend}
use Rattle.tocmark_text_laws.proofs.NestWalk.{Any}
use Rattle.tocmark_text_laws.proofs.QuotedLines.{LinesOn, some_line}
use Rattle.tocmark_text_laws.proofs.QuotedRun.{none_open}
use Rattle.tocmark_text_laws.proofs.SequencePages.{Onward}
use Rattle.tocmark_text_laws.proofs.SequenceLines.{Feed, Splits, split_lines, none_between, feed_ends, feed_stop}
use Rattle.tocmark_text_laws.proofs.SequenceRun.{alone, none_of, feed_end, first_run}
use Rattle.tocmark_text_laws.proofs.SequenceBlank.{Blank, leaf_alone, quote_first, passes_blank, empty_cells, quotes_known, blank_page, blank_between}
use Rattle.tocmark_text_laws.proofs.ListEndsClosed.{left_closed, other_list, no_list, none_left}
use Rattle.tocmark_text_laws.proofs.ListEndsLine.{Margin, listed_matched, Waits, core_container}
use Rattle.tocmark_text_laws.proofs.ListEndsBlank.{Blanked, blank_listed}
use Rattle.tocmark_text_laws.proofs.ListEndsFirst.{First, first_from, ascend_back, first_short, first_bytes, margin_first, margin_near, begun_anywhere}
use Rattle.tocmark_text_laws.proofs.ListEndsRun.{Holds, waits_after, holds_after, blank_ends, blank_cells, feeds, some_margin, list_near}
use Rattle.tocmark_text_laws.proofs.ItemContainers.{two_on}
use Rattle.tocmark_text_laws.proofs.ItemPages.{Inside, inside_more}
use Rattle.tocmark_text_laws.proofs.ItemTurns.{IsInItem, line_in}
use Rattle.tocmark_text_laws.proofs.ItemMarks.{item_of, spaces_of, front_few, some_ink}
use Rattle.tocmark_text_laws.proofs.ItemLines.{item_lines, Leads, first_leads, line_goes}
use Rattle.tocmark_text_laws.proofs.ItemRun.{Fits, first_in, line_begins, begins_some, item_blocks}
use Rattle.tocmark_text_laws.proofs.Lasting.{Reached, starts_loose, closed_grows, line_grows}
use Rattle.tocmark_text_laws.proofs.LooseItem.{Resumes, Pauses, pause_in, loose_first}

-- an empty line that ends all

blank_matched : (s : State) → Blank s → matched [] s.opened s.quotes ≡ (0, first_cursor [])
unfolding passed stopped first_cursor
blank_matched s (leaf_alone o h) = ap (λ (os : List Opened). matched [] os s.quotes) o
blank_matched s (quote_first o os qs e k) = ap (λ (xs : List Opened). matched [] xs s.quotes) e ∙ ap (λ (xs : List ℕ). matched [] (o ∷ os) xs) k

blank_passes : (t : List ℕ) (l : Line) (c : Cursor) (s : State) → Blank s → turn_of t [] l (record { cursor = c; depth = 0 }) s ≡ turn.Passes
unfolding turn_of
blank_passes t l c s (leaf_alone o h) = by (nat_le (length s.opened) 0)
  where
    by : (b : Bool) → (if b then leaf_turn t [] l c s.leaf else turn.Passes) ≡ turn.Passes
    by true = passes_blank t l c s.leaf h
    by false = refl
blank_passes t l c s (quote_first o os qs e k) =
    ap (λ (xs : List Opened). if nat_le (length xs) 0 then leaf_turn t [] l c s.leaf else turn.Passes) e
    ∙ ap (λ b. if b then leaf_turn t [] l c s.leaf else turn.Passes) (let z : nat_le (suc (length os)) 0 ≡ false = grind (arith, nat_tests) in z)

two_free : (end line : ℕ) (qs : List ℕ) (os : List Opened) → touched_from 2 end line (map two_on qs) os ≡ os
two_free end line [] os = refl
two_free end line (q ∷ qs) os = let e : nat_le 2 (suc (suc q)) ≡ true = grind (arith, nat_tests) in rw e refl

quiet_pauses : (t : List ℕ) (l : Line) (s : State) → Blank s → Pauses t l s
quiet_pauses t l s b = record { depth = 0; found = blank_matched s b; free = λ end line os. two_free end line s.quotes os; turns = blank_passes t l (first_cursor []) s b }

shut_resumes : (t : List ℕ) (r : List Cell) (s : State) → s.opened ≡ [] → s.leaf ≡ leaf.Nothing → Resumes t r s
shut_resumes t r s empty shut = record {
  depth = 0;
  found = ap (λ (os : List Opened). matched r os s.quotes) empty;
  free = λ end line os. two_free end line s.quotes os;
  shut = shut;
  none = ap (λ (u : State). u.opened) (none_left (closed_to t 0 s) closed) ∙ closed;
  other = λ i e. no_list i.sort (closed_to t 0 s) closed;
}
  where
    closed : (closed_to t 0 s).opened ≡ []
    closed = none_of (closed_to t 0 s).opened (none_open t s)

-- an empty line that leaves a list open

-- the quotes in the list are deeper than it
deeper_free : (end line k : ℕ) (cs : List Container) (os : List Opened) → touched_from 3 end line (map two_on (quotes_of (suc k) cs)) os ≡ os
deeper_free end line k [] os = refl
deeper_free end line k (c ∷ cs) os = by (is_quote c) (deeper_free end line (suc k) cs os)
  where
    by : (b : Bool) → touched_from 3 end line (map two_on (quotes_of (suc (suc k)) cs)) os ≡ os → touched_from 3 end line (map two_on (if b then suc k ∷ quotes_of (suc (suc k)) cs else quotes_of (suc (suc k)) cs)) os ≡ os
    by true h = ap (λ x. if x then os else touched_from 3 end line (map two_on (quotes_of (suc (suc k)) cs)) (raised_at os (suc (suc (suc k))) end line)) (let z : nat_le 3 (suc (suc (suc k))) ≡ true = grind (arith, nat_tests) in z)
    by false h = h

list_free : (mark end line : ℕ) (inner : List Container) (os : List Opened) → touched_from 3 end line (map two_on (quotes_of 0 (container.List mark ∷ inner))) os ≡ os
unfolding is_quote
list_free mark end line inner os = deeper_free end line 0 inner os

listed_resumes : (t : List ℕ) (r : List Cell) (mark : ℕ) (s : State) → Waits mark s → Margin r → s.leaf ≡ leaf.Nothing → goes_into mark (item_mark (container_at r (tail_of r) (first_cursor r) false)) ≡ false → Resumes t r s
listed_resumes t r mark s w m shut d = record {
  depth = 1;
  found = listed_matched r mark w.lists.inner s.opened s.quotes m w.lists.first w.behind;
  free = λ end line os. ap (λ (qs : List ℕ). touched_from 3 end line (map two_on qs) os) (w.quotes ∙ ap (quotes_of 0) w.lists.first) ∙ list_free mark end line w.lists.inner os;
  shut = shut;
  none = ap (λ (u : State). u.opened) (left_closed t mark s w.lists) ∙ none_of (closed_to t 0 s).opened (none_open t s);
  other = λ i e. other_list t mark i.sort s w.lists (sym (ap (λ o. goes_into mark (item_mark o)) (sym (core_container r (tail_of r) (first_cursor r) false) ∙ e)) ∙ d);
}

-- the lines before it

-- what is left when some lines of both texts came in
record Came (item : ItemStart) (first t q : List ℕ) (top : ℕ) (ls' ls : List Line) (there last : State) : Type 0 where
  page : State
  count : ℕ
  before : ℕ
  rest : List Line
  lines : LinesOn (IsInItem first item.width) t q before count rest ls
  late : 0 < before
  near : 2 * count + 9 < 2 ^ 64
  ones : AllByRecursion (IsLine t) ls
  inside : Inside item t q (2 * count) page last
  reached : Reached top page.opened
  low : page.line ≤ top
  goes : fold (line_taken_in core_known q) there ls' ≡ fold (line_taken_in core_known q) page rest

came_on : (item : ItemStart) (first t q : List ℕ) (top : ℕ) (l' : Line) (ls' ls : List Line) (there last : State) → Came item first t q top ls' ls (line_taken_in core_known q there l') last → Came item first t q top (l' ∷ ls') ls there last
came_on item first t q top l' ls' ls there last came = record {
  page = came.page;
  count = came.count;
  before = came.before;
  rest = came.rest;
  lines = came.lines;
  late = came.late;
  near = came.near;
  ones = came.ones;
  inside = came.inside;
  reached = came.reached;
  low = came.low;
  goes = came.goes;
}

abbrev pub UpTo : ℕ → List Line → Type 0
UpTo top ls = AllByRecursion (λ (l : Line). l.number ≤ top) ls

core_in : (item : ItemStart) (t q : List ℕ) (n : ℕ) (there here : State) → Inside item t q n there here → is_core there.leaf ≡ true
core_in item t q n there here h = ap is_core h.leaf ∙ h.core

lines_came : (item : ItemStart) (first t q : List ℕ) (n before top : ℕ) (ls' xs ls : List Line) (there here : State) → LinesOn (IsInItem first item.width) t q before n ls' (xs ++ ls) → 0 < before → AllByRecursion (IsLine t) (xs ++ ls) → 0 < item.width → 2 * n + 9 < 2 ^ 64 → Inside item t q (2 * n) there here
    → UpTo top xs → Reached top there.opened → there.line ≤ top → Came item first t q top ls' ls there (fold (line_taken_in core_known t) here xs)
lines_came item first t q n before top ls' [] ls there here h late ones wide few g up r low = record { page = there; count = n; before = before; rest = ls'; lines = h; late = late; near = few; ones = ones; inside = g; reached = r; low = low; goes = refl }
lines_came item first t q n before top [] (x ∷ xs) ls there here h late ones wide few g up r low = absurd h
lines_came item first t q n before top (l' ∷ ls') (x ∷ xs) ls there here (row, lines) late ones wide few g up r low =
    came_on item first t q top l' ls' ls there (fold (line_taken_in core_known t) here' xs)
    (lines_came item first t q x.next (before + 1) top ls' xs ls there' here' lines (omega (arith, late)) (ones.1) wide row.line.near
    (inside_more item t q (2 * n + 2 * (x.end - x.start)) (2 * x.next) there' here' (omega (arith, row.low, row.line.order, row.line.onto)) (line_in item first t q (2 * n) before n l' x there here row late (ones.0) wide few g))
    (up.1) (grown.0) (grown.1))
  where
    there' : State
    there' = line_taken_in core_known q there l'

    here' : State
    here' = line_taken_in core_known t here x

    grown : Reached top there'.opened × (there'.line ≤ top)
    grown = (line_grows q l' there (core_in item t q (2 * n) there here g)).reach top (subst (λ k. k ≤ top) (sym row.line.number) (up.0)) r low

all_came : (m : ItemMark) (t q : List ℕ) (top : ℕ) (ls' xs ls : List Line) → Fits m t → LinesOn (IsInItem (item_front m) (item_of m).width) t q 0 0 ls' (xs ++ ls) → Leads (xs ++ ls) → AllByRecursion (IsLine t) (xs ++ ls) → 0 < length xs → UpTo top xs
    → Came (item_of m) (item_front m) t q top ls' ls first_page (fold (line_taken_in core_known t) first_page xs)
unfolding is_core
all_came m t q top ls' [] ls f h lead ones some up = absurd (omega (arith, some))
all_came m t q top [] (x ∷ xs) ls f h lead ones some up = absurd h
all_came m t q top (l' ∷ ls') (x ∷ xs) ls f (row, lines) lead ones some up =
    came_on (item_of m) (item_front m) t q top l' ls' ls first_page (fold (line_taken_in core_known t) here' xs)
    (lines_came (item_of m) (item_front m) t q x.next 1 top ls' xs ls there' here' lines (omega arith) (ones.1) (let z : 0 < length (item_front m) = omega (arith, (front_few m f.kind).0) in z) row.line.near
    (inside_more (item_of m) t q (2 * (x.end - x.start)) (2 * x.next) there' here' (omega (arith, row.line.order, row.line.onto)) (first_in m t q l' x f row (lead.0) (lead.1) (ones.0)))
    (up.1) (grown.0) (grown.1))
  where
    there' : State
    there' = line_taken_in core_known q first_page l'

    here' : State
    here' = line_taken_in core_known t first_page x

    grown : Reached top there'.opened × (there'.line ≤ top)
    grown = (line_grows q l' first_page refl).reach top (subst (λ k. k ≤ top) (sym row.line.number) (up.0)) tt (omega arith)

-- the lines after it

-- the list stays loose
stays_loose : (t : List ℕ) (ls : List Line) (s : State) → is_core s.leaf ≡ true → starts_loose s.blocks ≡ true → starts_loose (fold (line_taken_in core_known t) s ls).blocks ≡ true
stays_loose t [] s c h = h
stays_loose t (l ∷ ls) s c h = stays_loose t ls (line_taken_in core_known t s l) (line_core t l s c) ((line_grows t l s c).loose h)

-- lines are counted from a number on
abbrev pub Counted : ℕ → List Line → Type 0
Counted before [] = Unit
Counted before (l ∷ ls) = (l.number ≡ plus before 1) × Counted (before + 1) ls

pub lines_counted : (q : List ℕ) (before from at : ℕ) (rest : List ℕ) → Counted before (lines_from q before from at rest)
lines_counted q before from at [] = by (nat_lt from at)
  where
    by : (b : Bool) → Counted before (if b then line before from at at ∷ [] else [])
    by true = (refl, tt)
    by false = tt
lines_counted q before from at (b ∷ bs) = by (ends_here q b at) (lines_counted q (before + 1) (at + 1) (at + 1) bs) (lines_counted q before from (at + 1) bs)
  where
    by : (x : Bool) → Counted (before + 1) (lines_from q (before + 1) (at + 1) (at + 1) bs) → Counted before (lines_from q before from (at + 1) bs) → Counted before (if x then line before from (line_stop q from b at) (at + 1) ∷ lines_from q (before + 1) (at + 1) (at + 1) bs else lines_from q before from (at + 1) bs)
    by true g again = (refl, g)
    by false g again = again

pub counted_later : (before : ℕ) (xs ls : List Line) → Counted before (xs ++ ls) → Counted (before + length xs) ls
counted_later before [] ls h = subst (λ n. Counted n ls) (let z : before ≡ before + 0 = omega arith in z) h
counted_later before (x ∷ xs) ls h = subst (λ n. Counted n ls) (let z : before + 1 + length xs ≡ before + suc (length xs) = omega arith in z) (counted_later (before + 1) xs ls (h.1))

pub counted_low : (before top : ℕ) (xs ls : List Line) → before + length xs ≤ top → Counted before (xs ++ ls) → UpTo top xs
counted_low before top [] ls low h = tt
counted_low before top (x ∷ xs) ls low h = (let z : x.number ≡ plus before 1 = h.0 in omega (arith, z, low), counted_low (before + 1) top xs ls (omega (arith, low)) (h.1))

-- a line with a byte that is no space
pub inky_cells : (t xs : List ℕ) (l : Line) → list_any (λ b. b == 9) (bytes_between t l.start l.end) ≡ false → bytes_between t l.start l.end ≡ xs → spaces_of xs < length xs → length xs < 2 ^ 64 - 1
    → nat_le (length (cells_of [] l.start (bytes_between t l.start l.end))) (first_cursor (cells_of [] l.start (bytes_between t l.start l.end))).ink ≡ false
inky_cells t xs l plain e some low = some_ink r (spaces_of xs) run (omega (arith, some, long)) (omega (arith, low, long))
  where
    r : List Cell
    r = cells_of [] l.start (bytes_between t l.start l.end)

    bytes : bytes_of r ≡ xs
    bytes = ap bytes_of (plain_cells l.start (bytes_between t l.start l.end) plain) ∙ bytes_kept l.start [] (bytes_between t l.start l.end) ∙ e

    long : length r ≡ length xs
    long = sym (length-map r (λ (c : Cell). c.byte)) ∙ ap length bytes

    run : run_of r 0 32 ≡ spaces_of xs
    run = run_asked r 0 32 ∙ length-prefix_len (λ x. x == 32) (bytes_of r) ∙ ap spaces_of bytes

line_inky : (u : List ℕ) → begins_blank u ≡ false → spaces_of (first_line u) < length (first_line u)
line_inky [] h = absurd cc
line_inky (b ∷ bs) h = by (b == 32) (is_end b) refl refl h (line_inky bs)
  where
    by : (x y : Bool) → (b == 32) ≡ x → is_end b ≡ y → (if x then begins_blank bs else y) ≡ false → (begins_blank bs ≡ false → spaces_of (first_line bs) < length (first_line bs)) → spaces_of (first_line (b ∷ bs)) < length (first_line (b ∷ bs))
    by true y e f g again =
        let space : b ≡ 32 = grind (arith, e, nat_tests) in
        let goes : first_line (b ∷ bs) ≡ b ∷ first_line bs = line_goes b bs (ap is_end space) in
        let more : spaces_of (first_line (b ∷ bs)) ≡ 1 + spaces_of (first_line bs) = ap spaces_of goes ∙ ap (λ k. cond k (1 + spaces_of (first_line bs)) 0) e in
        let long : length (first_line (b ∷ bs)) ≡ suc (length (first_line bs)) = ap length goes in
        let rest : spaces_of (first_line bs) < length (first_line bs) = again g in
        omega (arith, more, long, rest)
    by false true e f g again = absurd cc
    by false false e f g again =
        let goes : first_line (b ∷ bs) ≡ b ∷ first_line bs = line_goes b bs f in
        let more : spaces_of (first_line (b ∷ bs)) ≡ 0 = ap spaces_of goes ∙ ap (λ k. cond k (1 + spaces_of (first_line bs)) 0) e in
        let long : length (first_line (b ∷ bs)) ≡ suc (length (first_line bs)) = ap length goes in
        omega (arith, more, long)

-- the empty line and what is after it
loose_rest : (item : ItemStart) (first t q v : List ℕ) (n before top : ℕ) (ls' : List Line) (b l : Line) (ls : List Line) (there here : State) → LinesOn (IsInItem first item.width) t q before n ls' (b ∷ l ∷ ls) → 0 < before → AllByRecursion (IsLine t) (b ∷ l ∷ ls) → 0 < item.width → 2 * n + 9 < 2 ^ 64 → Inside item t q (2 * n) there here
    → bytes_between t b.start b.end ≡ [] → Pauses t b here → Resumes t (cells_of [] l.start (bytes_between t l.start l.end)) (line_taken_in core_known t here b) → Reached top there.opened → there.line ≤ top → plus top 1 < l.number
    → bytes_between t l.start l.end ≡ first_line v → begins_blank v ≡ false → length (first_line v) < 2 ^ 64 - 1
    → starts_loose (fold (line_taken_in core_known q) there ls').blocks ≡ true
loose_rest item first t q v n before top [] b l ls there here h late ones wide few g empty p s r low far words inky short = absurd h
loose_rest item first t q v n before top (b' ∷ []) b l ls there here h late ones wide few g empty p s r low far words inky short = absurd (h.1)
loose_rest item first t q v n before top (b' ∷ l' ∷ ls') b l ls there here (row, (next, lines)) late ones wide few g empty p s r low far words inky short =
    stays_loose q ls' (line_taken_in core_known q there' l') (line_core q l' there' (core_in item t q (2 * b.next) there' here' inside))
    (loose_first item first t q (2 * b.next) (before + 1) b.next top l' l there' here' next (omega (arith, late)) (ones.1.0) wide row.line.near inside s
    (inky_cells t (first_line v) l next.line.plain words (line_inky v inky) short)
    (reached.0) (reached.1) (omega (arith, far, next.line.number)))
  where
    there' : State
    there' = line_taken_in core_known q there b'

    here' : State
    here' = line_taken_in core_known t here b

    inside : Inside item t q (2 * b.next) there' here'
    inside = inside_more item t q (2 * n + 2 * (b.end - b.start)) (2 * b.next) there' here' (omega (arith, row.low, row.line.order, row.line.onto)) (line_in item first t q (2 * n) before n b' b there here row late (ones.0) wide few g)

    reached : Reached top there'.opened × (there'.line ≤ top)
    reached = subst (λ (s : State). Reached top s.opened × (s.line ≤ top)) (sym (pause_in item first t q (2 * n) before n b' b there here row late (ones.0) wide few g empty p)) ((closed_grows q (suc (suc p.depth)) there).reach top (omega arith) r low)

-- whether the first block is loose
abbrev first_loose : List Told → Bool
first_loose [] = false
first_loose (b ∷ bs) = b.loose

told_first : (q : List ℕ) (ps : List Piece) (bs : List Block) → first_loose (map (told q ps) bs) ≡ starts_loose bs
told_first q ps [] = refl
told_first q ps (b ∷ bs) = refl

-- the lines of the whole text: those of the first one, the empty line, the first line of the other text, and more
record Parts (t u : List ℕ) : Type 0 where
  empty : Line
  first : Line
  others : List Line
  lines : lines_of (t ++ 10 ∷ u) ≡ lines_of t ++ empty ∷ first ∷ others
  none : bytes_between (t ++ 10 ∷ u) empty.start empty.end ≡ []
  start : first.start ≡ length t + 1
  cells : (s : State) → line_taken_in core_known (t ++ 10 ∷ u) s empty ≡ cells_taken_in core_known (t ++ 10 ∷ u) [] empty s

parts : (t u : List ℕ) → Splits t (10 ∷ u) (length t) (lines_of (t ++ 10 ∷ u)) (lines_of t) → 0 < length u → Parts t u
parts t u split some = record {
  empty = line a b b (b + 1);
  first = f.first;
  others = f.others;
  lines = split.lines ∙ ap (λ ls. lines_of t ++ ls) (next ∙ ap (λ ls. line a b b (b + 1) ∷ ls) f.split);
  none = none_between q b;
  start = f.begins;
  cells = blank_cells q a b;
}
  where
    q : List ℕ
    q = t ++ 10 ∷ u

    a : ℕ
    a = split.count

    b : ℕ
    b = length t

    f : First (b + 1) (lines_from q (a + 1) (b + 1) (b + 1) u)
    f = first_from q (a + 1) (b + 1) (b + 1) u (omega (arith, some))

    next : lines_from q a b b (10 ∷ u) ≡ line a b b (b + 1) ∷ lines_from q (a + 1) (b + 1) (b + 1) u
    next =
        ap (λ k. if k then line a b (line_stop q b 10 b) (b + 1) ∷ lines_from q (a + 1) (b + 1) (b + 1) u else lines_from q a b (b + 1) u) (feed_ends q 10 b refl)
        ∙ ap (λ n. line a b n (b + 1) ∷ lines_from q (a + 1) (b + 1) (b + 1) u) (feed_stop q b)

-- the words of the line after the empty one
words_after : (t u : List ℕ) (l : Line) → l.start ≡ length t + 1 → l.start ≤ l.end → l.end ≤ length (t ++ 10 ∷ u) → IsLine (t ++ 10 ∷ u) l → bytes_between (t ++ 10 ∷ u) l.start l.end ≡ first_line u
words_after t u l start order fits one =
    subst (λ q. l.end ≤ length q → IsLine q l → bytes_between q l.start l.end ≡ first_line u) (append_assoc t (10 ∷ []) u)
    (λ f o. first_bytes (t ++ 10 ∷ []) u l (start ∙ sym (length-append t (10 ∷ []))) order f o) fits one

-- a text that doesn't begin with a blank line has a byte
inky_some : (u : List ℕ) → begins_blank u ≡ false → 0 < length u
inky_some [] h = absurd cc
inky_some (b ∷ bs) h = omega arith

-- what the empty line and the next one find after the first text
abbrev Meets : (t u : List ℕ) → Parts t u → Type 0
Meets t u p =
    Pauses (t ++ 10 ∷ u) p.empty (fold (line_taken_in core_known (t ++ 10 ∷ u)) first_page (lines_of t))
    × Resumes (t ++ 10 ∷ u) (cells_of [] p.first.start (first_line u)) (line_taken_in core_known (t ++ 10 ∷ u) (fold (line_taken_in core_known (t ++ 10 ∷ u)) first_page (lines_of t)) p.empty)

-- the list is loose
list_loose : (m : ItemMark) (bare : ℕ → Bool) (t u : List ℕ) → IsItemMark m → BeginsItem m (t ++ 10 ∷ u) → list_any (λ b. b == 9) (t ++ 10 ∷ u) ≡ false → is_break (marker_bytes m ++ first_line (t ++ 10 ∷ u)) ≡ false → 32 * length (t ++ 10 ∷ u) + 30 < 2 ^ 64
    → 0 < length t → begins_blank u ≡ false → (p : Parts t u) → Meets t u p → starts_loose (fold (line_taken_in core_known (item_text m bare (t ++ 10 ∷ u))) first_page (lines_of (item_text m bare (t ++ 10 ∷ u)))).blocks ≡ true
list_loose m bare t u ok starts plain break fits some inky p meets =
    subst (λ (s : State). starts_loose s.blocks ≡ true) (sym came.goes)
    (loose_rest (item_of m) (item_front m) w q u came.count came.before top came.rest p.empty p.first p.others came.page last came.lines came.late came.ones (let z : 0 < length (item_front m) = omega (arith, (front_few m ok).0) in z) came.near came.inside
    p.none (meets.0) (subst (λ bs. Resumes w (cells_of [] p.first.start bs) (line_taken_in core_known w last p.empty)) (sym words) (meets.1)) came.reached came.low far words inky (omega (arith, first_short u, fits, long)))
  where
    w : List ℕ
    w = t ++ 10 ∷ u

    q : List ℕ
    q = item_text m bare w

    long : length w ≡ length t + suc (length u)
    long = length-append t (10 ∷ u)

    top : ℕ
    top = length (lines_of t)

    counted : Counted 0 (lines_of t ++ p.empty ∷ p.first ∷ p.others)
    counted = subst (Counted 0) p.lines (lines_counted w 0 0 0 w)

    later : Counted (0 + top) (p.empty ∷ p.first ∷ p.others)
    later = counted_later 0 (lines_of t) (p.empty ∷ p.first ∷ p.others) counted

    far : plus top 1 < p.first.number
    far = omega (arith, later.1.0, lines_few t 0 0 0 t, fits, long)

    last : State
    last = fold (line_taken_in core_known w) first_page (lines_of t)

    came : Came (item_of m) (item_front m) w q top (lines_of q) (p.empty ∷ p.first ∷ p.others) first_page last
    came = all_came m w q top (lines_of q) (lines_of t) (p.empty ∷ p.first ∷ p.others) (record { kind = ok; begins = starts; break = break })
        (subst (LinesOn (IsInItem (item_front m) (item_of m).width) w q 0 0 (lines_of q)) p.lines (item_lines m bare w ok (begins_some m w starts) plain fits))
        (subst Leads p.lines (first_leads w (line_begins m w starts)))
        (subst (λ ls. AllByRecursion (IsLine w) ls) p.lines (lines-end w (omega (arith, fits))))
        (some_line t some)
        (counted_low 0 top (lines_of t) (p.empty ∷ p.first ∷ p.others) (omega arith) counted)

    rise : (k : ℕ) × Ascend Any w k (p.empty ∷ p.first ∷ p.others)
    rise = ascend_back Any w 0 (lines_of t) (p.empty ∷ p.first ∷ p.others) (subst (Ascend Any w 0) p.lines (lines_ascend Any w (any w)))

    words : bytes_between w p.first.start p.first.end ≡ first_line u
    words = words_after t u p.first p.start (rise.1.1.0).ordered (rise.1.1.0).within (came.ones.1.0)

-- two texts in a row in an item whose list is loose
joined : (m : ItemMark) (bare : ℕ → Bool) (t u : List ℕ) → IsItemMark m → BeginsItem m (t ++ 10 ∷ u) → list_any (λ b. b == 9) (t ++ 10 ∷ u) ≡ false → is_break (marker_bytes m ++ first_line (t ++ 10 ∷ u)) ≡ false → 32 * length (t ++ 10 ∷ u) + 30 < 2 ^ 64
    → 0 < length t → begins_blank u ≡ false → (p : Parts t u) → Meets t u p → IsSequence (t ++ 10 ∷ u) t u
    → read_trees (item_text m bare (t ++ 10 ∷ u)) ≡ more (Node (ListFrom (first_number m.mark)) true [] (more (Node Item false [] (trees_joined (read_trees t) (read_trees u))) none)) none
unfolding blocks_in page_in known_of
joined m bare t u ok starts plain break fits some inky p meets row =
    is.trees
    ∙ ap (λ (x : Bool). more (Node (ListFrom (first_number m.mark)) x [] (more (Node Item false [] (read_trees w)) none)) none) loose
    ∙ ap (λ (ts : Trees). more (Node (ListFrom (first_number m.mark)) true [] (more (Node Item false [] ts) none)) none) row.trees
  where
    w : List ℕ
    w = t ++ 10 ∷ u

    q : List ℕ
    q = item_text m bare w

    is : IsItem m bare w
    is = item_blocks m bare w ok starts plain break fits

    before : State
    before = fold (line_taken_in core_known q) first_page (lines_of q)

    loose : is.loose ≡ true
    loose = sym (ap first_loose is.blocks) ∙ told_first q (blocks_in CORE q).pieces (blocks_in CORE q).blocks ∙ (closed_grows q 0 before).loose (list_loose m bare t u ok starts plain break fits some inky p meets)

-- the first text is quiet
pub loose_item : MarksMakeALooseItem
loose_item m bare t u ok starts plain break fits c inky = joined m bare t u ok starts plain break fits some inky p (pauses, resumes) (blank_between t u c (omega (arith, fits, long)))
  where
    w : List ℕ
    w = t ++ 10 ∷ u

    long : length w ≡ length t + suc (length u)
    long = length-append t (10 ∷ u)

    feed : Feed t
    feed = subst (λ xs. Feed xs) (sym ((c.line).1)) (feed_end ((c.line).0))

    some : 0 < length t
    some = omega (arith, ap length ((c.line).1), length-append ((c.line).0) (10 ∷ []))

    split : Splits t (10 ∷ u) (length t) (lines_of w) (lines_of t)
    split = split_lines t (10 ∷ u) (omega (arith, fits, long)) feed

    p : Parts t u
    p = parts t u split (inky_some u inky)

    last : State
    last = fold (line_taken_in core_known w) first_page (lines_of t)

    onward : Onward t w alone (0 + length (lines_of t)) last (after_lines t)
    onward = first_run t (10 ∷ u) (omega (arith, fits, long)) feed split some

    known : After (after_lines t) → (after_lines t).quotes ≡ quotes_of 0 (containers (after_lines t).opened)
    known (a, k, r) = quotes_known a k (after_lines t) r

    blank : Blank last
    blank = blank_page alone last (after_lines t) onward.opened onward.leaf onward.quotes (known (all_lines t (omega (arith, fits, long)))) c.ends

    ends : line_taken_in core_known w last p.empty ≡ closed_to w 0 last
    ends = p.cells last ∙ empty_cells w p.empty last blank

    pauses : Pauses w p.empty last
    pauses = quiet_pauses w p.empty last blank

    resumes : Resumes w (cells_of [] p.first.start (first_line u)) (line_taken_in core_known w last p.empty)
    resumes = subst (Resumes w (cells_of [] p.first.start (first_line u))) (sym ends)
        (shut_resumes w (cells_of [] p.first.start (first_line u)) (closed_to w 0 last) (none_of (closed_to w 0 last).opened (none_open w last)) (closed_shut w 0 last))

-- the first text leaves a list open

margin_inky : (u : List ℕ) → begins_at_margin u ≡ true → begins_blank u ≡ false
margin_inky [] h = absurd cc
margin_inky (b ∷ bs) h = by (b == 9) (b == 32) (is_end b) h
  where
    by : (x y z : Bool) → not (x || y || z) ≡ true → (if y then begins_blank bs else z) ≡ false
    by true y z g = absurd cc
    by false true z g = absurd cc
    by false false true g = absurd cc
    by false false false g = refl

near_inky : (u : List ℕ) → begins_near_margin u ≡ true → begins_blank u ≡ false
near_inky [] h = absurd cc
near_inky (b ∷ bs) h = by (b == 32) h
  where
    end : (x y z : Bool) → not (x || y || z) ≡ true → z ≡ false
    end true y z g = absurd cc
    end false true z g = absurd cc
    end false false true g = absurd cc
    end false false false g = refl

    by : (x : Bool) → (if x then begins_at_margin bs else begins_at_margin (b ∷ bs)) ≡ true → (if x then begins_blank bs else is_end b) ≡ false
    by true g = margin_inky bs g
    by false g = end (b == 9) (b == 32) (is_end b) g

pub loose_near : AListEndsNearMarginInALooseItem
loose_near m bare t u mark ok starts plain break fits c ends ink other = joined m bare t u ok starts plain break fits some (near_inky u ink) p (pauses, resumes) (list_near t u mark c ends ink other (omega (arith, fits, long)))
  where
    w : List ℕ
    w = t ++ 10 ∷ u

    long : length w ≡ length t + suc (length u)
    long = length-append t (10 ∷ u)

    feed : Feed t
    feed = feeds t mark c

    some : 0 < length t
    some = omega (arith, ap length ((c.line).1), length-append ((c.line).0) (10 ∷ []))

    split : Splits t (10 ∷ u) (length t) (lines_of w) (lines_of t)
    split = split_lines t (10 ∷ u) (omega (arith, fits, long)) feed

    p : Parts t u
    p = parts t u split (some_margin u ink)

    last : State
    last = fold (line_taken_in core_known w) first_page (lines_of t)

    onward : Onward t w alone (0 + length (lines_of t)) last (after_lines t)
    onward = first_run t (10 ∷ u) (omega (arith, fits, long)) feed split some

    holds : Holds mark last
    holds = holds_after t (10 ∷ u) mark (0 + length (lines_of t)) (omega (arith, fits, long)) c onward (all_lines t (omega (arith, fits, long)))

    blanked : Blanked w p.empty last
    blanked = blank_listed w p.empty mark last holds.lists holds.known (blank_ends alone last (after_lines t) onward.opened onward.leaf ends)

    pauses : Pauses w p.empty last
    pauses = record { depth = blanked.depth; found = blanked.found; free = blanked.free; turns = blanked.turns }

    cs : List Cell
    cs = cells_of [] p.first.start (first_line u)

    apart : goes_into mark (item_mark (container_at cs (tail_of cs) (first_cursor cs) false)) ≡ false
    apart = ap (λ o. goes_into mark (item_mark o)) (begun_anywhere p.first.start (first_line u) (omega (arith, p.start, first_short u, fits, long))) ∙ other

    resumes : Resumes w cs (line_taken_in core_known w last p.empty)
    resumes = subst (Resumes w cs) (sym (p.cells last ∙ blanked.same))
        (listed_resumes w cs mark (closed_to w blanked.depth last) (waits_after w mark blanked.depth last blanked.deep holds) (margin_first u p.first.start ink) (closed_shut w blanked.depth last) apart)

pub loose_list : AListEndsInALooseItem
loose_list m bare t u mark ok starts plain break fits c ends ink other = loose_near m bare t u mark ok starts plain break fits c ends (margin_near u ink) other
