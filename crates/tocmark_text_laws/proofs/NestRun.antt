-- The blocks of each text nest.
use Rattle.std.proofs.Common.{ℕ, suc, ◌+◌, ◌-◌, ◌*◌, ◌^◌, ◌<◌, ◌≤◌, Bool, true, false, if◌then◌else◌, nat_lt, List, [], ◌∷◌, length, refl, arith}
use Rattle.std.specs.List.{fold}
use Rattle.tocmark_read_scan.specs.Basic.{bytes_between}
use Rattle.tocmark_read_lines.specs.Cells.{cell_place, cells_of}
use Rattle.tocmark_read_lines.specs.Lines.{ends_here, line_stop, line, lines_from, lines_of}
use Rattle.tocmark_read_lines.specs.declared.cell.Cell.{Cell}
use Rattle.tocmark_read_lines.specs.declared.line.Line.{Line}
use Rattle.tocmark_read_page.specs.Pages.{State, closed_to, first_page}
use Rattle.tocmark_read_constructs.specs.Metadata.{known_of}
use Rattle.tocmark_read_blocks.specs.Blocks.{core_known, line_taken_in, page_in, blocks_in}
use Rattle.tocmark_text_laws.specs.Nested.{Nest, BlocksNest}
use Rattle.tocmark_text_laws.specs.Ordered.{AreInOrder, BlocksAreInOrder}
use Rattle.tocmark_text_laws.proofs.Grounds.{Grounded}
use Rattle.tocmark_text_laws.proofs.Ranged.{Bounds, LineIn, Ascend, cells_head, grounded, lines_ascend}
use Rattle.tocmark_text_laws.proofs.Stacked.{nests_plain}
use Rattle.tocmark_text_laws.proofs.Sorted.{Sorted, sorts_plain}
use Rattle.tocmark_text_laws.proofs.Nesting.{Rests, calm, all_closed}
use Rattle.tocmark_text_laws.proofs.NestWalk.{Any, cells_rest}

pub any : (t : List ℕ) → Bounds Any t
any t = record { front = tt; end = tt; around = λ i b e k. (tt, tt) }

line_rests : (c n : ℕ) (t : List ℕ) (l : Line) (s : State) → 4 * length t < 2 ^ 64 - 1 → c ≤ 2 ^ 64 - 1 → LineIn Any t n l → Rests 0 n c n s → Rests 0 l.end (suc c) l.end (line_taken_in core_known t s l)
unfolding line_taken_in
line_rests c n t l s small few h r = cells_rest c n t cells l s k few (let a : n ≤ l.start = h.after in let b : l.start ≤ l.end = h.ordered in omega arith) low r
  where
    cells : List Cell
    cells = cells_of [] l.start (bytes_between t l.start l.end)

    k : Grounded Any cells l
    k = grounded Any t n l small (any t) h

    first : l.start ≤ cell_place cells 0 l.end
    first = cells_head (λ x. l.start ≤ x) l.start l.end (bytes_between t l.start l.end) (omega arith) h.ordered

    low : (x : ℕ) → n ≤ cell_place cells x l.end
    low x = let a : n ≤ l.start = h.after in let b : l.start ≤ cell_place cells 0 l.end = first in let c : cell_place cells 0 l.end ≤ cell_place cells x l.end = k.rising 0 x (omega arith) in omega arith

-- a page after some lines
abbrev pub After : State → Type 0
After s = (c : ℕ) × (n : ℕ) × Rests 0 n c n s

run_rests : (c n : ℕ) (t : List ℕ) (ls : List Line) (s : State) → 4 * length t < 2 ^ 64 - 1 → c + length ls ≤ 2 ^ 64 - 1 → Ascend Any t n ls → Rests 0 n c n s → After (fold (line_taken_in core_known t) s ls)
run_rests c n t [] s small few h r = (c, n, r)
run_rests c n t (l ∷ ls) s small few h r = run_rests (suc c) l.end t ls (line_taken_in core_known t s l) small (omega arith) (h.1) (line_rests c n t l s small (omega arith) (h.0) r)

-- a text has hardly more lines than bytes
pub lines_few : (t : List ℕ) (before start at : ℕ) (rest : List ℕ) → length (lines_from t before start at rest) ≤ length rest + 1
lines_few t before start at [] = by (nat_lt start at)
  where
    by : (x : Bool) → length (if x then line before start at at ∷ [] else []) ≤ 0 + 1
    by true = omega arith
    by false = omega arith
lines_few t before start at (b ∷ bs) = by (ends_here t b at) (lines_few t (before + 1) (at + 1) (at + 1) bs) (lines_few t before start (at + 1) bs)
  where
    by : (x : Bool) → length (lines_from t (before + 1) (at + 1) (at + 1) bs) ≤ length bs + 1 → length (lines_from t before start (at + 1) bs) ≤ length bs + 1
        → length (if x then line before start (line_stop t start b at) (at + 1) ∷ lines_from t (before + 1) (at + 1) (at + 1) bs else lines_from t before start (at + 1) bs) ≤ suc (length bs) + 1
    by true h k = omega arith
    by false h k = omega arith

first_sorted : Sorted 0 0 0 [] [] []
first_sorted = record { past = tt; order = tt; reach = λ i o g c. absurd cc; under = tt; room = omega arith; quotes = refl }

-- the page after all lines
pub all_lines : (t : List ℕ) → 4 * length t + 1 < 2 ^ 64 → After (fold (line_taken_in core_known t) first_page (lines_of t))
all_lines t small = run_rests 0 0 t (lines_of t) first_page (omega arith) (let w : length (lines_of t) ≤ length t + 1 = lines_few t 0 0 0 t in omega arith) (lines_ascend Any t (any t)) (calm refl (tt, omega arith, first_sorted))

pub blocks_nested : BlocksNest
unfolding blocks_in page_in known_of
blocks_nested t small = by (all_lines t small)
  where
    by : After (fold (line_taken_in core_known t) first_page (lines_of t)) → Nest (closed_to t 0 (fold (line_taken_in core_known t) first_page (lines_of t))).blocks
    by (c, n, r) = nests_plain (closed_to t 0 (fold (line_taken_in core_known t) first_page (lines_of t))).blocks ((all_closed 0 n c n t (fold (line_taken_in core_known t) first_page (lines_of t)) (omega arith) r).0)

pub blocks_ordered : BlocksAreInOrder
unfolding blocks_in page_in known_of
blocks_ordered t small = by (all_lines t small)
  where
    by : After (fold (line_taken_in core_known t) first_page (lines_of t)) → AreInOrder (closed_to t 0 (fold (line_taken_in core_known t) first_page (lines_of t))).blocks
    by (c, n, r) = sorts_plain (closed_to t 0 (fold (line_taken_in core_known t) first_page (lines_of t))).blocks ((all_closed 0 n c n t (fold (line_taken_in core_known t) first_page (lines_of t)) (omega arith) r).1)
