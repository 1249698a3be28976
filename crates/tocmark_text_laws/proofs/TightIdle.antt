-- No list is loose in a text whose lines all have ink, or go into a leaf.
use Rattle.std.proofs.Common.{◌≡◌, ◌⊎◌, inl, inr, ℕ, ◌≤◌, Bool, true, false, ◌&&◌, ◌||◌, if◌then◌else◌, nat_lt, nat_le, List, [], ◌∷◌, ◌++◌, length, refl, ap, sym, ◌∙◌, subst, arith}
use Rattle.std.specs.List.{AllByRecursion, fold}
use Rattle.tocmark_read_scan.specs.Basic.{bytes_between}
use Rattle.tocmark_read_scan.specs.declared.syntax.TheConstants.{CORE}
use Rattle.tocmark_read_lines.specs.Cells.{cells_of, is_blank_at}
use Rattle.tocmark_read_lines.specs.Containers.{matched, touched_from}
use Rattle.tocmark_read_lines.specs.Lines.{lines_of}
use Rattle.tocmark_read_lines.specs.Marks.{tail_of}
use Rattle.tocmark_read_lines.specs.declared.beginnings.Tail.{Tail}
use Rattle.tocmark_read_lines.specs.declared.cell.Cell.{Cell}
use Rattle.tocmark_read_lines.specs.declared.cell.Cursor.{Cursor}
use Rattle.tocmark_read_lines.specs.declared.line.Line.{Line}
use Rattle.tocmark_read_page.specs.Leaves.{is_paragraph}
use Rattle.tocmark_read_page.specs.Pages.{State, first_page, leaf_finished, closed_to, piece_taken, start_of}
use Rattle.tocmark_read_page.specs.Pieces.{code_piece, keeps_line}
use Rattle.tocmark_read_page.specs.declared.leaf.Leaf.{Leaf}
use Rattle.tocmark_read_page.specs.declared.leaf.Leaf.TheVariants as leaf
use Rattle.tocmark_read_page.specs.declared.line_start.LineStart.{LineStart}
use Rattle.tocmark_read_page.specs.declared.piece.Piece.{Piece}
use Rattle.tocmark_read_constructs.specs.Metadata.{known_of}
use Rattle.tocmark_read_blocks.specs.Blocks.{core_known, started_in, started_at_in, leaf_started_in, passed_in, turn_in, leaf_ended, touched, turn_taken_in, taken_at_in, cells_taken_in, line_taken_in, page_in, blocks_in}
use Rattle.tocmark_read_blocks.specs.Codes.{code_taken}
use Rattle.tocmark_read_blocks.specs.Containers.{goes_directly, containers_opened_in}
use Rattle.tocmark_read_blocks.specs.Leaves.{leaf_at}
use Rattle.tocmark_read_blocks.specs.declared.leaf.LeafStart.{LeafStart}
use Rattle.tocmark_read_blocks.specs.declared.leaf.LeafStart.TheVariants as start
use Rattle.tocmark_read_blocks.specs.declared.leaf.Turn.{Turn}
use Rattle.tocmark_read_blocks.specs.declared.leaf.Turn.TheVariants as turn
use Rattle.tocmark_text_laws.specs.Loose.{has_ink, is_open, goes_in_leaf, NoneIsIdleFrom, NoBlankLineIsIdle, NoIdleLineNoLooseList, NoBlankLineNoLooseList}
use Rattle.tocmark_text_laws.proofs.Shut.{closed_shut, finished_shut}
use Rattle.tocmark_text_laws.proofs.Leaves.{is_core}
use Rattle.tocmark_text_laws.proofs.Core.{turns_core}
use Rattle.tocmark_text_laws.proofs.Machine.{core_at, core_begun}
use Rattle.tocmark_text_laws.proofs.Turns.{turn_of_core}
use Rattle.tocmark_text_laws.proofs.Kept.{line_core}
use Rattle.tocmark_text_laws.proofs.Pages.{is_shut}
use Rattle.tocmark_text_laws.proofs.Tight.{Tight, Along, Next, calm_along, words_along, along_less, touched_inner, finish_calm, closed_calm}
use Rattle.tocmark_text_laws.proofs.TightWalk.{or_left, le_true, leaf_starts, started_along, repeat_along, ended_along, line_along, Follow, follow_from}

-- any line leaves all lists tight

piece_weak : (k : ℕ) (p : Piece) (line : Line) (keeps : Bool) (s : State) → k ≤ line.number → k ≤ s.line → Tight s → Tight (piece_taken p line keeps s) × (k ≤ (piece_taken p line keeps s).line) × ((piece_taken p line keeps s).leaf ≡ s.leaf)
unfolding piece_taken
piece_weak k p line keeps s near low h = by keeps (nat_lt 0 p.spaces || nat_lt p.start p.next)
  where
    made : Bool → State → State
    made y t = if y then record t { kept = length t.pieces; end = line.end; line = line.number } else t

    by : (y x : Bool) → Tight (made y (if x then record s { pieces = s.pieces ++ p ∷ [] } else s)) × (k ≤ (made y (if x then record s { pieces = s.pieces ++ p ∷ [] } else s)).line) × ((made y (if x then record s { pieces = s.pieces ++ p ∷ [] } else s)).leaf ≡ s.leaf)
    by true true = (h, near, refl)
    by true false = (h, near, refl)
    by false true = (h, low, refl)
    by false false = (h, low, refl)

code_weak : (t : List ℕ) (cs : List Cell) (column : ℕ) (line : Line) (k : ℕ) (s : State) → k ≤ line.number → is_shut s.leaf ≡ false → Along k s → Along k (code_taken t cs column line s)
unfolding code_taken
code_weak t cs column line k s near e h =
    ended_along k (bytes_between t (code_piece cs column line).start (code_piece cs column line).end) (piece_taken (code_piece cs column line) line (keeps_line cs column s.leaf) s) (both.0) (both.1) (ap is_shut (both.2) ∙ e)
  where
    both : Tight (piece_taken (code_piece cs column line) line (keeps_line cs column s.leaf) s) × (k ≤ (piece_taken (code_piece cs column line) line (keeps_line cs column s.leaf) s).line) × ((piece_taken (code_piece cs column line) line (keeps_line cs column s.leaf) s).leaf ≡ s.leaf)
    both = piece_weak k (code_piece cs column line) line (keeps_line cs column s.leaf) s near (h.words e) h.tight

blank_starts : (cs : List Cell) (rest : List ℕ) (tail : Tail) (c : Cursor) (p d : Bool) → is_blank_at cs c ≡ true → leaf_at cs rest tail c p d ≡ start.Blank
unfolding leaf_at
blank_starts cs rest tail c p d e = rw e refl

blank_weak : (t : List ℕ) (cs : List Cell) (line : Line) (tail : Tail) (place : LineStart) (k : ℕ) (s : State) → Along k s → Along k (started_in core_known start.Blank t cs line tail place s)
unfolding started_in
blank_weak t cs line tail place k s h = calm_along k (closed_to t place.depth s) (closed_shut t place.depth s) (closed_calm t k place.depth s h)

started_weak : (t : List ℕ) (cs : List Cell) (line : Line) (k : ℕ) (s : State) (place : LineStart) → Next k line.number → Along k s → Along k (started_at_in core_known t cs line (tail_of cs) (s, place))
started_weak t cs line k s place near h = subst (Along k) (sym (core_begun t cs line (tail_of cs) s place)) (by (is_blank_at cs place.cursor) refl)
  where
    b : LeafStart
    b = core_at t cs line (tail_of cs) s place

    not_here : is_blank_at cs place.cursor ≡ false → is_blank_at cs place.cursor ≡ true → Along line.number s
    not_here e w = let z : true ≡ false = sym w ∙ e in absurd cc

    by : (x : Bool) → is_blank_at cs place.cursor ≡ x → Along k (started_in core_known b t cs line (tail_of cs) place s)
    by true e = subst (λ (y : LeafStart). Along k (started_in core_known y t cs line (tail_of cs) place s)) (sym (blank_starts cs (bytes_between t (start_of cs place line) line.end) (tail_of cs) place.cursor (is_paragraph s.leaf) (goes_directly place.depth s) e)) (blank_weak t cs line (tail_of cs) place k s h)
    by false e = along_less k line.number (started_in core_known b t cs line (tail_of cs) place s) (near.0) (started_along t cs line (tail_of cs) place k s b near (leaf_starts cs (bytes_between t (start_of cs place line) line.end) (tail_of cs) place.cursor (is_paragraph s.leaf) (goes_directly place.depth s)) (not_here e) h)

leaf_started_weak : (t : List ℕ) (cs : List Cell) (line : Line) (place : LineStart) (k : ℕ) (s : State) → Next k line.number → Along k s → Along k (leaf_started_in core_known t cs line place s)
unfolding leaf_started_in
leaf_started_weak t cs line place k s near h = by (containers_opened_in CORE t cs line (tail_of cs) place s) (repeat_along t cs line (tail_of cs) k (length cs) place s near h)
  where
    by : (r : State × LineStart) → (r ≡ (s, place)) ⊎ Along line.number (r.0) → Along k (started_at_in core_known t cs line (tail_of cs) r)
    by r (inl e) = subst (λ (x : State × LineStart). Along k (started_at_in core_known t cs line (tail_of cs) x)) (sym e) (started_weak t cs line k s place near h)
    by (u, next) (inr g) = started_weak t cs line k u next near (along_less k line.number u (near.0) g)

takes_open : (column : ℕ) (k : Leaf) → turns_core (turn.Takes column) k ≡ true → is_shut k ≡ false
unfolding turns_core is_shut
takes_open column leaf.Nothing h = absurd cc
takes_open column leaf.Paragraph h = refl
takes_open column leaf.Indented h = refl
takes_open column (leaf.Fenced f) h = refl
takes_open column (leaf.Html k) h = refl
takes_open column (leaf.Metadata k) h = refl
takes_open column (leaf.Table t) h = refl

turned_weak : (t : List ℕ) (cs : List Cell) (line : Line) (place : LineStart) (k : ℕ) (s : State) (u : Turn) → Next k line.number → turns_core u s.leaf ≡ true → Along k s → Along k (turn_taken_in core_known u t cs line place s)
unfolding passed_in turns_core leaf_ended
turned_weak t cs line place k s turn.Closes near g h = calm_along k (leaf_finished (record s { end = line.end; line = line.number })) (finished_shut (record s { end = line.end; line = line.number })) (finish_calm k (record s { end = line.end; line = line.number }) h.tight (near.0))
turned_weak t cs line place k s (turn.Takes column) near g h = code_weak t cs column line k s (near.0) (takes_open column s.leaf g) h
turned_weak t cs line place k s turn.Passes near g h = leaf_started_weak t cs line place k s near h
turned_weak t cs line place k s (turn.Row x) near g h = absurd cc

line_weak : (t : List ℕ) (line : Line) (k : ℕ) (s : State) → is_core s.leaf ≡ true → Next k line.number → Along k s → Along k (line_taken_in core_known t s line)
unfolding line_taken_in cells_taken_in touched turn_in
line_weak t line k s c near h = by (matched cells s.opened s.quotes)
  where
    cells : List Cell
    cells = cells_of [] line.start (bytes_between t line.start line.end)

    by : (found : ℕ × Cursor) → Along k (taken_at_in core_known t cells line (record { cursor = found.1; depth = found.0 }) (touched line (found.0) s))
    by (depth, cursor) = turned_weak t cells line (record { cursor = cursor; depth = depth }) k u _ near (turn_of_core t cells line (record { cursor = cursor; depth = depth }) u c)
        (record { tight = h.tight; words = h.words; inner = λ o. touched_inner k depth line.end line.number s.quotes s.opened (h.inner o) })
      where
        u : State
        u = record s { opened = touched_from depth line.end line.number s.quotes s.opened }

-- a line with ink, or one that goes into a leaf

pub and_both : (a b : Bool) → (a && b) ≡ true → (a ≡ true) × (b ≡ true)
and_both true b h = (refl, h)
and_both false b h = absurd cc

pub open_leaf : (k : Leaf) → is_open k ≡ true → is_shut k ≡ false
unfolding is_shut
open_leaf leaf.Nothing h = absurd cc
open_leaf leaf.Paragraph h = refl
open_leaf leaf.Indented h = refl
open_leaf (leaf.Fenced f) h = refl
open_leaf (leaf.Html k) h = refl
open_leaf (leaf.Metadata k) h = refl
open_leaf (leaf.Table t) h = refl

line_idle : (t : List ℕ) (line : Line) (k : ℕ) (s : State) → is_core s.leaf ≡ true → (has_ink (bytes_between t line.start line.end) || goes_in_leaf line (line_taken_in core_known t s line)) ≡ true → Next k line.number → Along k s → Along line.number (line_taken_in core_known t s line)
line_idle t line k s c ok near h = by (has_ink (bytes_between t line.start line.end)) refl ok
  where
    u : State
    u = line_taken_in core_known t s line

    goes : (is_open u.leaf ≡ true) × (nat_le line.number u.line ≡ true) → Along line.number u
    goes g = words_along line.number u (line_weak t line k s c near h).tight (le_true line.number u.line (g.1)) (open_leaf u.leaf (g.0))

    by : (x : Bool) → has_ink (bytes_between t line.start line.end) ≡ x → (x || goes_in_leaf line u) ≡ true → Along line.number u
    by true e g = line_along t line k s c e near h
    by false e g = goes (and_both (is_open u.leaf) (nat_le line.number u.line) g)

lines_idle : (t : List ℕ) (ls : List Line) (k : ℕ) (s : State) → is_core s.leaf ≡ true → Follow k ls → NoneIsIdleFrom t s ls → Along k s → (n : ℕ) × Along n (fold (line_taken_in core_known t) s ls)
lines_idle t [] k s c f idle h = (k, h)
lines_idle t (l ∷ ls) k s c f idle h = lines_idle t ls l.number (line_taken_in core_known t s l) (line_core t l s c) (f.1) (idle.1) (line_idle t l k s c (idle.0) (f.0) h)

pub none_loose : NoIdleLineNoLooseList
unfolding blocks_in page_in known_of is_core
none_loose t idle = by (lines_idle t (lines_of t) 0 first_page refl (follow_from t 0 0 0 0 t (omega arith, omega arith)) idle (record { tight = tt; words = λ o. (let z : 0 ≤ 0 = omega arith in z); inner = λ o. tt }))
  where
    last : State
    last = fold (line_taken_in core_known t) first_page (lines_of t)

    by : (n : ℕ) × Along n last → Tight (closed_to t 0 last)
    by (n, h) = (closed_calm t n 0 last h).tight

-- a line that isn't blank isn't idle
ink_idle : (t : List ℕ) (ls : List Line) (s : State) → AllByRecursion (λ (l : Line). has_ink (bytes_between t l.start l.end) ≡ true) ls → NoneIsIdleFrom t s ls
ink_idle t [] s h = tt
ink_idle t (l ∷ ls) s h = (or_left (has_ink (bytes_between t l.start l.end)) (goes_in_leaf l (line_taken_in core_known t s l)) (h.0), ink_idle t ls (line_taken_in core_known t s l) (h.1))

pub no_idle : NoBlankLineIsIdle
no_idle t h = ink_idle t (lines_of t) first_page h

pub no_loose : NoBlankLineNoLooseList
no_loose t h = none_loose t (no_idle t h)
