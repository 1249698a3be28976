-- An empty line in front of a text moves the places of its blocks by one, and changes nothing else.
use Rattle.std.proofs.Common.{◌≡◌, ℕ, ◌+◌, ◌^◌, ◌<◌, Bool, true, false, ◌&&◌, if◌then◌else◌, nat_le, List, [], ◌∷◌, length, map, refl, ap, ◌∙◌, arith, true≢false}
use Rattle.std.specs.Prelude.{slice_range}
use Rattle.std.specs.List.{AllByRecursion, fold}
use Rattle.tocmark_read_scan.specs.Basic.{bytes_between}
use Rattle.tocmark_read_lines.specs.Cells.{cells_of, first_cursor}
use Rattle.tocmark_read_lines.specs.Lines.{lines_of}
use Rattle.tocmark_read_lines.specs.declared.line.Line.{Line}
use Rattle.tocmark_read_page.specs.Pages.{State, first_page, leaf_closed, times, closed_to}
use Rattle.tocmark_read_constructs.specs.Metadata.{known_of}
use Rattle.tocmark_read_blocks.specs.Blocks.{BlocksView, core_known, turn_of, turn_in, touched, passed_in, cells_taken_in, line_taken_in, page_in, blocks_in}
use Rattle.tocmark_read_blocks.specs.Leaves.{leaf_turn}
use Rattle.tocmark_read_blocks.proofs.Steps.{blank_started}
use Rattle.tocmark_text_laws.specs.Further.{line_on, page_on, view_on, EmptyLineInFront}
use Rattle.tocmark_text_laws.proofs.LinesFurther.{lines_on}
use Rattle.tocmark_text_laws.proofs.Low.{LowLine, lines_low}
use Rattle.tocmark_text_laws.proofs.Pages.{is_shut, Tied, closed_to_on}
use Rattle.tocmark_text_laws.proofs.Leaves.{is_core}
use Rattle.tocmark_text_laws.proofs.Machine.{On, move}
use Rattle.tocmark_text_laws.proofs.Turns.{line_taken_on}
use Rattle.tocmark_text_laws.proofs.Kept.{line_core}

pub run_on : (t : List ℕ) (c : ℕ) (ls : List Line) (e l : ℕ) (s : State) → AllByRecursion LowLine ls → Tied e l s → is_core s.leaf ≡ true
    → On (fold (line_taken_in core_known (c ∷ t)) (page_on e l s) (map line_on ls)) (fold (line_taken_in core_known t) s ls)
run_on t c [] e l s low tied core = (e, l, refl, tied)
run_on t c (x ∷ xs) e l s low tied core = by (line_taken_in core_known (c ∷ t) (page_on e l s) (line_on x)) (line_taken_on t c x e l s (low.0) tied core) (λ e' l' h. run_on t c xs e' l' (line_taken_in core_known t s x) (low.1) h (line_core t x s core))
  where
    after : State
    after = line_taken_in core_known t s x

    by : (s' : State) → On s' after
        → ((e' l' : ℕ) → Tied e' l' after → On (fold (line_taken_in core_known (c ∷ t)) (page_on e' l' after) (map line_on xs)) (fold (line_taken_in core_known t) after xs))
        → On (fold (line_taken_in core_known (c ∷ t)) s' (map line_on xs)) (fold (line_taken_in core_known t) after xs)
    by s' (e', l', p, h) f = rw p (f e' l' h)

none_between : (t : List ℕ) → bytes_between t 0 0 ≡ []
none_between t = by (nat_le 0 0 && nat_le 0 (length t))
  where
    by : (b : Bool) → (if b then slice_range t 0 0 else []) ≡ []
    by true = refl
    by false = refl

nothing_closed : (t : List ℕ) → closed_to t 0 first_page ≡ first_page
unfolding closed_to leaf_closed times
nothing_closed t = refl

first_taken : (t : List ℕ) → line_taken_in core_known t first_page (record { number = 1; start = 0; end = 0; next = 1 }) ≡ first_page
unfolding line_taken_in cells_taken_in touched turn_in turn_of leaf_turn passed_in first_cursor
first_taken t =
    ap (λ bs. cells_taken_in core_known t (cells_of [] 0 bs) (record { number = 1; start = 0; end = 0; next = 1 }) first_page) (none_between t)
    ∙ blank_started core_known t [] (record { number = 1; start = 0; end = 0; next = 1 }) (record { cursor = first_cursor []; depth = 0 }) first_page refl
    ∙ nothing_closed t

first_tied : Tied 0 0 first_page
unfolding is_shut
first_tied = λ h. absurd (true≢false h)

pub run_in_front : (t : List ℕ) → length t + 3 < 2 ^ 64 → On (fold (line_taken_in core_known (10 ∷ t)) first_page (lines_of (10 ∷ t))) (fold (line_taken_in core_known t) first_page (lines_of t))
unfolding is_core
run_in_front t h = move first refl (run_on t 10 (lines_of t) 0 0 first_page (lines_low t h) first_tied refl)
  where
    first : fold (line_taken_in core_known (10 ∷ t)) first_page (lines_of (10 ∷ t)) ≡ fold (line_taken_in core_known (10 ∷ t)) first_page (map line_on (lines_of t))
    first = ap (fold (line_taken_in core_known (10 ∷ t)) first_page) (lines_on t (omega arith)) ∙ ap (λ s. fold (line_taken_in core_known (10 ∷ t)) s (map line_on (lines_of t))) (first_taken (10 ∷ t))

pub front : EmptyLineInFront
unfolding blocks_in page_in known_of
front t h = by (fold (line_taken_in core_known (10 ∷ t)) first_page (lines_of (10 ∷ t))) (fold (line_taken_in core_known t) first_page (lines_of t)) (run_in_front t h)
  where
    view : State → BlocksView
    view s = record { blocks = s.blocks; pieces = s.pieces; definitions = s.definitions }

    by : (s' s : State) → On s' s → view (closed_to (10 ∷ t) 0 s') ≡ view_on (view (closed_to t 0 s))
    by s' s (e, l, p, tied) = ap (λ u. view (closed_to (10 ∷ t) 0 u)) p ∙ ap view (closed_to_on t 10 0 e l s tied)
