-- An empty line at the top ends what is open, if that is nothing or a paragraph.
use Rattle.std.proofs.Common.{◌≡◌, ℕ, ◌≤◌, Bool, true, false, ◌&&◌, if◌then◌else◌, nat_le, List, [], length, refl, ap, sym, ◌∙◌, arith, true≢false}
use Rattle.std.proofs.lemmas.Bool.Decides.{nat_tests}
use Rattle.tocmark_read_scan.specs.Basic.{bytes_between}
use Rattle.tocmark_read_lines.specs.Cells.{cells_of, first_cursor, is_blank_at}
use Rattle.tocmark_read_lines.specs.Containers.{matched, touched_from}
use Rattle.tocmark_read_lines.proofs.Columns.{no_cells}
use Rattle.tocmark_read_lines.specs.declared.cell.Cell.{Cell}
use Rattle.tocmark_read_lines.specs.declared.cell.Cursor.{Cursor}
use Rattle.tocmark_read_lines.specs.declared.container.Opened.{Opened}
use Rattle.tocmark_read_lines.specs.declared.line.Line.{Line}
use Rattle.tocmark_read_page.specs.Pages.{State, closed_to}
use Rattle.tocmark_read_page.specs.declared.leaf.Leaf.{Leaf}
use Rattle.tocmark_read_page.specs.declared.leaf.Leaf.TheVariants as leaf
use Rattle.tocmark_read_page.specs.declared.line_start.Known.{Known}
use Rattle.tocmark_read_blocks.specs.Leaves.{ends_at_blank, leaf_turn}
use Rattle.tocmark_read_blocks.specs.declared.leaf.Turn.{Turn}
use Rattle.tocmark_read_blocks.specs.declared.leaf.Turn.TheVariants as turn
use Rattle.tocmark_read_constructs.specs.Footnotes.{is_ended_by_note}
use Rattle.tocmark_read_blocks.specs.Blocks.{turn_of, turn_in, touched, turn_taken_in, taken_at_in, leaf_started_in, tabled_in, passed_in, cells_taken_in, line_taken_in}
use Rattle.tocmark_read_blocks.proofs.FencedLines.{at_front, none_open, untouched}
use Rattle.tocmark_read_blocks.proofs.Steps.{blank_started}

-- such a leaf lets something else begin
passing : (text : List ℕ) (cells : List Cell) (line : Line) (cursor : Cursor) (l : Leaf) → ends_at_blank l ≡ true → leaf_turn text cells line cursor l ≡ turn.Passes
unfolding ends_at_blank leaf_turn
passing text cells line cursor leaf.Nothing h = refl
passing text cells line cursor leaf.Paragraph h = refl
passing text cells line cursor leaf.Indented h = absurd (true≢false (sym h))
passing text cells line cursor (leaf.Fenced f) h = absurd (true≢false (sym h))
passing text cells line cursor (leaf.Html k) h = absurd (true≢false (sym h))
passing text cells line cursor (leaf.Metadata k) h = absurd (true≢false (sym h))
passing text cells line cursor (leaf.Table t) h = absurd (true≢false (sym h))

passes : (known : Known) (text : List ℕ) (cells : List Cell) (line : Line) (s : State) → leaf_turn text cells line (first_cursor cells) s.leaf ≡ turn.Passes → turn_in known text cells line (at_front cells) s ≡ turn.Passes
unfolding turn_in turn_of
passes known text cells line s h = by_test (known.syntax.footnotes && is_ended_by_note cells (at_front cells) s) (nat_le (length s.opened) 0)
  where
    by_test : (k m : Bool) → (if◌then◌else◌ {A = Turn} k turn.Passes (if◌then◌else◌ {A = Turn} m (leaf_turn text cells line (first_cursor cells) s.leaf) turn.Passes)) ≡ turn.Passes
    by_test true m = refl
    by_test false true = h
    by_test false false = refl

least : (n : ℕ) → nat_le 0 n ≡ true
least n = grind (arith, nat_tests)

blank : (cells : List Cell) (cursor : Cursor) → cells ≡ [] → is_blank_at cells cursor ≡ true
blank cells cursor none = ap (λ (cs : List Cell). nat_le (length cs) cursor.ink) none ∙ least cursor.ink

only_ends : (known : Known) (text : List ℕ) (cells : List Cell) (line : Line) (s : State) → cells ≡ [] → known.syntax.tables ≡ false → passed_in known text cells line (at_front cells) s ≡ closed_to text 0 s
unfolding passed_in
only_ends known text cells line s none untabled =
    ap (λ (t : Bool). if◌then◌else◌ {A = State} t (tabled_in known text cells line (at_front cells) s) (leaf_started_in known text cells line (at_front cells) s)) untabled
    ∙ blank_started known text cells line (at_front cells) s (blank cells (first_cursor cells) none)

empty_line : (known : Known) (text : List ℕ) (line : Line) (s : State) → line.end ≤ line.start → s.opened ≡ [] → known.syntax.tables ≡ false → ends_at_blank s.leaf ≡ true → line_taken_in known text s line ≡ closed_to text 0 s
unfolding line_taken_in cells_taken_in touched
empty_line known text line s empty top untabled ends =
    ap (λ (f : ℕ × Cursor). taken_at_in known text cells line (record { cursor = f.1; depth = f.0 }) (record s { opened = touched_from (f.0) line.end line.number s.quotes s.opened })) in_none
    ∙ ap (λ (o : List Opened). taken_at_in known text cells line (at_front cells) (record s { opened = o })) (untouched line.end line.number s.quotes s.opened)
    ∙ ap (λ t. turn_taken_in known t text cells line (at_front cells) s) (passes known text cells line s (passing text cells line (first_cursor cells) s.leaf ends))
    ∙ only_ends known text cells line s (no_cells text line.start line.end empty) untabled
  where
    cells : List Cell
    cells = cells_of [] line.start (bytes_between text line.start line.end)

    in_none : matched cells s.opened s.quotes ≡ (0, first_cursor cells)
    in_none = ap (λ (o : List Opened). matched cells o s.quotes) top

-- the same, by the tests of the code
pub empty_by_tests : (known : Known) (text : List ℕ) (line : Line) (s : State) → line.end ≤ line.start → length s.opened ≡ 0 → known.syntax.tables ≡ false → ends_at_blank s.leaf ≡ true → line_taken_in known text s line ≡ closed_to text 0 s
empty_by_tests known text line s empty top untabled ends = empty_line known text line s empty (none_open s.opened top) untabled ends
