-- A line comes into a page one further, in CommonMark alone.
use Rattle.std.proofs.Common.{◌≡◌, ℕ, suc, ◌+◌, ◌-◌, ◌^◌, ◌<◌, Bool, true, false, if◌then◌else◌, nat_le, List, [], ◌∷◌, length, map, refl, ap, sym, ◌∙◌, true≢false}
use Rattle.std.proofs.lemmas.List.{length-map}
use Rattle.tocmark_read_scan.specs.Basic.{bytes_between}
use Rattle.tocmark_read_scan.specs.declared.syntax.TheConstants.{CORE}
use Rattle.tocmark_read_lines.specs.Cells.{cells_of}
use Rattle.tocmark_read_lines.specs.Containers.{matched}
use Rattle.tocmark_read_lines.specs.Marks.{tail_of}
use Rattle.tocmark_read_lines.specs.declared.cell.Cell.{Cell}
use Rattle.tocmark_read_lines.specs.declared.cell.Cursor.{Cursor}
use Rattle.tocmark_read_lines.specs.declared.line.Line.{Line}
use Rattle.tocmark_read_page.specs.Pages.{State}
use Rattle.tocmark_read_page.specs.declared.leaf.Leaf.{Leaf}
use Rattle.tocmark_read_page.specs.declared.leaf.Leaf.TheVariants as leaf
use Rattle.tocmark_read_page.specs.declared.line_start.LineStart.{LineStart}
use Rattle.tocmark_read_blocks.specs.Blocks.{core_known, started_at_in, leaf_started_in, passed_in, turn_of, turn_in, leaf_ended, touched, turn_taken_in, taken_at_in, cells_taken_in, line_taken_in}
use Rattle.tocmark_read_blocks.specs.Containers.{containers_opened_in}
use Rattle.tocmark_read_blocks.specs.Codes.{code_taken}
use Rattle.tocmark_read_blocks.specs.Leaves.{leaf_turn}
use Rattle.tocmark_read_blocks.specs.declared.leaf.Turn.{Turn}
use Rattle.tocmark_read_blocks.specs.declared.leaf.Turn.TheVariants as turn
use Rattle.tocmark_text_laws.specs.Further.{cell_on, line_on, opened_on, page_on, tied_on}
use Rattle.tocmark_text_laws.proofs.LinesFurther.{between_on}
use Rattle.tocmark_text_laws.proofs.Cells.{cells_on}
use Rattle.tocmark_text_laws.proofs.Marks.{same_tail}
use Rattle.tocmark_text_laws.proofs.Containers.{same_matched, touched_from_on}
use Rattle.tocmark_text_laws.proofs.Pieces.{Low}
use Rattle.tocmark_text_laws.proofs.Low.{LowLine, low_cells, between_short}
use Rattle.tocmark_text_laws.proofs.Pages.{is_shut, Tied, leaf_finished_on}
use Rattle.tocmark_text_laws.proofs.Core.{turns_core, turn_core}
use Rattle.tocmark_text_laws.proofs.Leaves.{is_core, same_turn, code_taken_on}
use Rattle.tocmark_text_laws.proofs.Begun.{Went, containers_on}
use Rattle.tocmark_text_laws.proofs.Machine.{On, on_tied, started_at_on}

pub leaf_started_on : (t : List ℕ) (c : ℕ) (cs : List Cell) (line : Line) (place : LineStart) (e l : ℕ) (s : State) → Low cs line.end → line.number + 1 < 2 ^ 64 - 1 → Tied e l s
    → On (leaf_started_in core_known (c ∷ t) (map cell_on cs) (line_on line) place (page_on e l s)) (leaf_started_in core_known t cs line place s)
unfolding leaf_started_in
leaf_started_on t c cs line place e l s low few tied =
    rw (same_tail cs)
    (by (containers_opened_in CORE (c ∷ t) (map cell_on cs) (line_on line) (tail_of cs) place (page_on e l s)) (containers_opened_in CORE t cs line (tail_of cs) place s) (containers_on t c cs line (tail_of cs) place e l s few tied))
  where
    by : (r' r : State × LineStart) → Went e l r' r → On (started_at_in core_known (c ∷ t) (map cell_on cs) (line_on line) (tail_of cs) r') (started_at_in core_known t cs line (tail_of cs) r)
    by r' (u, next) w = rw (w.0) (started_at_on t c cs line (tail_of cs) e l u next low few (w.1))

leaf_ended_on : (line : Line) (e l : ℕ) (s : State) → leaf_ended (line_on line) (page_on e l s) ≡ tied_on (leaf_ended line s)
unfolding leaf_ended
leaf_ended_on line e l s = leaf_finished_on (record s { end = line.end; line = line.number })

same_turn_of : (t : List ℕ) (c : ℕ) (cs : List Cell) (line : Line) (place : LineStart) (e l : ℕ) (s : State) → is_core s.leaf ≡ true → turn_of (c ∷ t) (map cell_on cs) (line_on line) place (page_on e l s) ≡ turn_of t cs line place s
unfolding turn_of
same_turn_of t c cs line place e l s core = rw (length-map s.opened opened_on, same_turn t c cs line place.cursor s.leaf core) refl

pub turn_of_core : (t : List ℕ) (cs : List Cell) (line : Line) (place : LineStart) (s : State) → is_core s.leaf ≡ true → turns_core (turn_of t cs line place s) s.leaf ≡ true
unfolding turn_of turns_core
turn_of_core t cs line place s core = by (nat_le (length s.opened) place.depth)
  where
    by : (b : Bool) → turns_core (if b then leaf_turn t cs line place.cursor s.leaf else turn.Passes) s.leaf ≡ true
    by true = turn_core t cs line place.cursor s.leaf core
    by false = refl

takes_open : (column : ℕ) (k : Leaf) → turns_core (turn.Takes column) k ≡ true → is_shut k ≡ false
unfolding turns_core is_shut
takes_open column leaf.Nothing h = absurd cc
takes_open column leaf.Paragraph h = refl
takes_open column leaf.Indented h = refl
takes_open column (leaf.Fenced f) h = refl
takes_open column (leaf.Html k) h = refl
takes_open column (leaf.Metadata k) h = refl
takes_open column (leaf.Table t) h = refl

row_not : (x : _) (k : Leaf) → turns_core (turn.Row x) k ≡ true → false ≡ true
unfolding turns_core
row_not x k h = h

turned_on : (t : List ℕ) (c : ℕ) (cs : List Cell) (line : Line) (place : LineStart) (e l : ℕ) (s : State) (u : Turn) → Low cs line.end → line.number + 1 < 2 ^ 64 - 1 → Tied e l s → turns_core u s.leaf ≡ true
    → On (turn_taken_in core_known u (c ∷ t) (map cell_on cs) (line_on line) place (page_on e l s)) (turn_taken_in core_known u t cs line place s)
unfolding passed_in
turned_on t c cs line place e l s turn.Closes low few tied h = on_tied _ _ (leaf_ended_on line e l s)
turned_on t c cs line place e l s (turn.Takes column) low few tied h = on_tied _ _ (ap (code_taken (c ∷ t) (map cell_on cs) column (line_on line)) (ap (λ n. page_on n l s) (w.0) ∙ ap (λ n. page_on (suc s.end) n s) (w.1)) ∙ code_taken_on t c cs column line s low)
  where
    w : (e ≡ suc s.end) × (l ≡ suc s.line)
    w = tied (takes_open column s.leaf h)
turned_on t c cs line place e l s turn.Passes low few tied h = leaf_started_on t c cs line place e l s low few tied
turned_on t c cs line place e l s (turn.Row x) low few tied h = absurd (true≢false (sym (row_not x s.leaf h)))

pub taken_at_on : (t : List ℕ) (c : ℕ) (cs : List Cell) (line : Line) (place : LineStart) (e l : ℕ) (s : State) → Low cs line.end → line.number + 1 < 2 ^ 64 - 1 → Tied e l s → is_core s.leaf ≡ true
    → On (taken_at_in core_known (c ∷ t) (map cell_on cs) (line_on line) place (page_on e l s)) (taken_at_in core_known t cs line place s)
unfolding turn_in
taken_at_on t c cs line place e l s low few tied core =
    rw (same_turn_of t c cs line place e l s core) (turned_on t c cs line place e l s (turn_of t cs line place s) low few tied (turn_of_core t cs line place s core))

touched_on : (line : Line) (depth e l : ℕ) (s : State) → touched (line_on line) depth (page_on e l s) ≡ page_on e l (touched line depth s)
unfolding touched
touched_on line depth e l s = rw (touched_from_on depth line.end line.number s.quotes s.opened) refl

pub cells_taken_on : (t : List ℕ) (c : ℕ) (cs : List Cell) (line : Line) (e l : ℕ) (s : State) → Low cs line.end → line.number + 1 < 2 ^ 64 - 1 → Tied e l s → is_core s.leaf ≡ true
    → On (cells_taken_in core_known (c ∷ t) (map cell_on cs) (line_on line) (page_on e l s)) (cells_taken_in core_known t cs line s)
unfolding cells_taken_in touched
cells_taken_on t c cs line e l s low few tied core =
    rw (same_matched cs s.opened s.quotes) (by (matched cs s.opened s.quotes))
  where
    inner : (depth : ℕ) → (Tied e l (touched line depth s)) × (is_core (touched line depth s).leaf ≡ true)
    inner depth = (tied, core)

    by : (found : ℕ × Cursor) → On (taken_at_in core_known (c ∷ t) (map cell_on cs) (line_on line) (record { cursor = found.1; depth = found.0 }) (touched (line_on line) (found.0) (page_on e l s))) (taken_at_in core_known t cs line (record { cursor = found.1; depth = found.0 }) (touched line (found.0) s))
    by (depth, cursor) = rw (touched_on line depth e l s) (taken_at_on t c cs line (record { cursor = cursor; depth = depth }) e l (touched line depth s) low few ((inner depth).0) ((inner depth).1))

pub line_taken_on : (t : List ℕ) (c : ℕ) (line : Line) (e l : ℕ) (s : State) → LowLine line → Tied e l s → is_core s.leaf ≡ true
    → On (line_taken_in core_known (c ∷ t) (page_on e l s) (line_on line)) (line_taken_in core_known t s line)
unfolding line_taken_in
line_taken_on t c line e l s h tied core =
    rw (between_on t c line.start line.end, cells_on [] line.start (bytes_between t line.start line.end) (between_short t line.start line.end h.begins h.ends))
    (cells_taken_on t c (cells_of [] line.start (bytes_between t line.start line.end)) line e l s (low_cells t line h) h.few tied core)
