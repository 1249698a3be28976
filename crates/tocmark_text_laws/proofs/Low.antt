-- The places of the lines of a text, and of their columns, are far below the greatest number.
use Rattle.std.proofs.Common.{◌≡◌, ℕ, zero, suc, ◌+◌, ◌-◌, ◌^◌, ◌<◌, ◌≤◌, Bool, true, false, ◌==◌, ◌&&◌, if◌then◌else◌, nat_lt, nat_le, List, [], ◌∷◌, ◌++◌, length, drop, refl, arith, length-take, min}
use Rattle.std.specs.Prelude.{replicate, ◌%◌, slice_range}
use Rattle.std.specs.List.{AllByRecursion}
use Rattle.std.proofs.lemmas.Bool.Decides.{nat_tests}
use Rattle.tocmark_read_scan.specs.Basic.{plus, byte_at, bytes_between}
use Rattle.tocmark_read_lines.specs.Cells.{cell, cells_of, filled, cell_place}
use Rattle.tocmark_read_lines.specs.Lines.{ends_here, line_stop, line, last_line, lines_from, lines_of}
use Rattle.tocmark_read_lines.specs.declared.cell.Cell.{Cell}
use Rattle.tocmark_read_lines.specs.declared.line.Line.{Line}
use Rattle.tocmark_text_laws.proofs.Pieces.{Low}

abbrev pub IsLow : Cell → Type 0
IsLow c = c.at + 1 < 2 ^ 64 - 1

both_low : (xs ys : List Cell) → AllByRecursion IsLow xs → AllByRecursion IsLow ys → AllByRecursion IsLow (xs ++ ys)
both_low [] ys h k = k
both_low (x ∷ xs) ys h k = (h.0, both_low xs ys (h.1) k)

copies_low : (n : ℕ) (c : Cell) → IsLow c → AllByRecursion IsLow (replicate n c)
copies_low zero c h = tt
copies_low (suc n) c h = (h, copies_low n c h)

filled_low : (cs : List Cell) (b at : ℕ) → AllByRecursion IsLow cs → at + 1 < 2 ^ 64 - 1 → AllByRecursion IsLow (filled cs b at)
unfolding filled
filled_low cs b at h k = by (b == 9)
  where
    by : (t : Bool) → AllByRecursion IsLow (if t then cs ++ replicate (4 - length cs % 4) (cell 32 at) else cs ++ cell b at ∷ [])
    by true = both_low cs (replicate (4 - length cs % 4) (cell 32 at)) h (copies_low (4 - length cs % 4) (cell 32 at) k)
    by false = both_low cs (cell b at ∷ []) h (k, tt)

cells_low : (cs : List Cell) (at : ℕ) (bs : List ℕ) → AllByRecursion IsLow cs → at + length bs + 1 < 2 ^ 64 - 1 → AllByRecursion IsLow (cells_of cs at bs)
cells_low cs at [] h k = h
cells_low cs at (b ∷ bs) h k = cells_low (filled cs b at) (plus at 1) bs (filled_low cs b at h (omega arith)) (omega arith)

place_low : (cs : List Cell) (end : ℕ) → AllByRecursion IsLow cs → end + 1 < 2 ^ 64 - 1 → (c : ℕ) → cell_place cs c end + 1 < 2 ^ 64 - 1
place_low [] end h k c = k
place_low (x ∷ xs) end h k zero = h.0
place_low (x ∷ xs) end h k (suc c) = place_low xs end (h.1) k c

-- a line of a text that isn't too long
pub record LowLine (l : Line) : Type 0 where
  pub few : l.number + 1 < 2 ^ 64 - 1
  pub begins : l.start + 1 < 2 ^ 64 - 1
  pub ends : l.end + 1 < 2 ^ 64 - 1

first_true : (a b : Bool) → a && b ≡ true → a ≡ true
first_true true b h = refl
first_true false b h = h

pub between_short : (t : List ℕ) (a b : ℕ) → a + 1 < 2 ^ 64 - 1 → b + 1 < 2 ^ 64 - 1 → a + length (bytes_between t a b) + 1 < 2 ^ 64 - 1
between_short t a b h k = by (nat_le a b && nat_le b (length t)) refl
  where
    by : (c : Bool) → (nat_le a b && nat_le b (length t)) ≡ c → a + length (if c then slice_range t a b else []) + 1 < 2 ^ 64 - 1
    by true p = let w : length (slice_range t a b) ≡ min (b - a) (length (drop a t)) = length-take (b - a) (drop a t) in let o : nat_le a b ≡ true = first_true (nat_le a b) (nat_le b (length t)) p in let q : a ≤ b = grind (arith, nat_tests) in omega arith
    by false p = omega arith

pub low_cells : (t : List ℕ) (l : Line) → LowLine l → Low (cells_of [] l.start (bytes_between t l.start l.end)) l.end
low_cells t l h = place_low (cells_of [] l.start (bytes_between t l.start l.end)) l.end (cells_low [] l.start (bytes_between t l.start l.end) tt (between_short t l.start l.end h.begins h.ends)) h.ends

pub stop_low : (t : List ℕ) (start b at : ℕ) → line_stop t start b at ≤ at
unfolding line_stop
stop_low t start b at = by ((b == 10) && nat_lt start at && (byte_at t (at - 1) == 13))
  where
    by : (k : Bool) → (if k then at - 1 else at) ≤ at
    by true = omega arith
    by false = omega arith

last_low : (before start at : ℕ) → before + 2 < 2 ^ 64 - 1 → at + 1 < 2 ^ 64 - 1 → start ≤ at → AllByRecursion LowLine (last_line before start at)
last_low before start at h k m = by (nat_lt start at)
  where
    by : (c : Bool) → AllByRecursion LowLine (if c then line before start at at ∷ [] else [])
    by true = (record { few = omega arith; begins = omega arith; ends = k }, tt)
    by false = tt

from_low : (t : List ℕ) (before start at : ℕ) (rest : List ℕ) → before + length rest + 2 < 2 ^ 64 - 1 → at + length rest + 1 < 2 ^ 64 - 1 → start ≤ at → AllByRecursion LowLine (lines_from t before start at rest)
from_low t before start at [] h k m = last_low before start at (omega arith) (omega arith) m
from_low t before start at (b ∷ bs) h k m =
    by (ends_here t b at) (from_low t (before + 1) (at + 1) (at + 1) bs (omega arith) (omega arith) (omega arith)) (from_low t before start (at + 1) bs (omega arith) (omega arith) (omega arith))
  where
    by : (c : Bool) → AllByRecursion LowLine (lines_from t (before + 1) (at + 1) (at + 1) bs) → AllByRecursion LowLine (lines_from t before start (at + 1) bs)
        → AllByRecursion LowLine (if c then line before start (line_stop t start b at) (at + 1) ∷ lines_from t (before + 1) (at + 1) (at + 1) bs else lines_from t before start (at + 1) bs)
    by true next more = (record { few = omega arith; begins = omega arith; ends = omega (arith, stop_low t start b at) }, next)
    by false next more = more

pub lines_low : (t : List ℕ) → length t + 3 < 2 ^ 64 → AllByRecursion LowLine (lines_of t)
lines_low t h = from_low t 0 0 0 t (omega arith) (omega arith) (omega arith)
