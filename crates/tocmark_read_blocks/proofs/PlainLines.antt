-- Lines of a text, and their columns, where no byte ends a line or is a tab.
use Rattle.std.proofs.Common.{◌≡◌, ℕ, suc, ◌+◌, ◌^◌, ◌<◌, false, ◌==◌, List, [], ◌∷◌, ◌++◌, length, refl, ap, sym, ◌∙◌, arith, append_assoc, append-nil}
use Rattle.std.specs.List.{AllByRecursion}
use Rattle.tocmark_read_scan.specs.Basic.{plus}
use Rattle.tocmark_read_lines.specs.Lines.{ends_here, lines_from}
use Rattle.tocmark_read_lines.specs.Cells.{cell, filled, cells_of}
use Rattle.tocmark_read_lines.specs.declared.cell.Cell.{Cell}

-- a byte that ends no line, and is no tab
pub record IsWithin (b : ℕ) : Type 0 where
  pub feed : (b == 10) ≡ false
  pub return : (b == 13) ≡ false
  pub tab : (b == 9) ≡ false

within_ends_not : (text : List ℕ) (b at : ℕ) → IsWithin b → ends_here text b at ≡ false
unfolding ends_here
within_ends_not text b at h = rw (h.feed, h.return) refl

-- such bytes lengthen the line that is open
pub lines_within : (text : List ℕ) (before start at : ℕ) (xs rest : List ℕ) → AllByRecursion IsWithin xs → lines_from text before start at (xs ++ rest) ≡ lines_from text before start (at + length xs) rest
lines_within text before start at [] rest h = ap (λ p. lines_from text before start p rest) (let q : at ≡ at + 0 = omega arith in q)
lines_within text before start at (x ∷ xs) rest h =
    let same : at + 1 + length xs ≡ at + suc (length xs) = omega arith in
    rw (within_ends_not text x at (h.0)) (lines_within text before start (at + 1) xs rest (h.1) ∙ ap (λ p. lines_from text before start p rest) same)

-- the columns of bytes from a place on
abbrev pub numbered : ℕ → List ℕ → List Cell
numbered at [] = []
numbered at (b ∷ bs) = cell b at ∷ numbered (at + 1) bs

filled_within : (cells : List Cell) (b at : ℕ) → IsWithin b → filled cells b at ≡ cells ++ cell b at ∷ []
unfolding filled
filled_within cells b at h = rw h.tab refl

cells_behind : (cells : List Cell) (at : ℕ) (xs : List ℕ) → AllByRecursion IsWithin xs → at + length xs < 2 ^ 64 → cells_of cells at xs ≡ cells ++ numbered at xs
cells_behind cells at [] h fits = sym (append-nil cells)
cells_behind cells at (x ∷ xs) h fits =
    let next : plus at 1 ≡ at + 1 = omega arith in
    ap (λ (c : List Cell). cells_of c (plus at 1) xs) (filled_within cells x at (h.0))
    ∙ ap (λ p. cells_of (cells ++ cell x at ∷ []) p xs) next
    ∙ cells_behind (cells ++ cell x at ∷ []) (at + 1) xs (h.1) (omega arith)
    ∙ append_assoc cells (cell x at ∷ []) (numbered (at + 1) xs)

-- the columns of such bytes are these bytes, numbered
pub cells_within : (at : ℕ) (xs : List ℕ) → AllByRecursion IsWithin xs → at + length xs < 2 ^ 64 → cells_of [] at xs ≡ numbered at xs
cells_within at xs h fits = cells_behind [] at xs h fits
