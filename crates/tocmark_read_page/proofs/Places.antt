-- How many columns from one on have a place.
use Rattle.std.proofs.Common.{◌≡◌, ℕ, zero, suc, ◌+◌, ◌<◌, ◌≤◌, Bool, true, false, ◌==◌, cond, List, [], ◌∷◌, length, refl, ap, sym, ◌∙◌, arith}
use Rattle.std.proofs.lemmas.Bool.Decides.{nat_tests}
use Rattle.std.proofs.lemmas.List.Folds.{length-prefix_len}
use Rattle.std.specs.List.{prefix_len}
use Rattle.tocmark_read_lines.specs.Cells.{cell_place}
use Rattle.tocmark_read_lines.specs.declared.cell.Cell.{Cell}
use Rattle.tocmark_read_page.specs.Pieces.{same_place}

abbrev stands_at : ℕ → Cell → Bool
stands_at at c = c.at == at

same_later : (cells : List Cell) (column at : ℕ) → column < length cells → cell_place cells column 0 ≡ at → same_place cells column at ≡ 1 + same_place cells (suc column) at
same_later [] column at h e = absurd (omega arith)
same_later (c ∷ cs) zero at h e =
    let here : (c.at == at) ≡ true = grind (arith, nat_tests) in
    length-prefix_len (stands_at at) (c ∷ cs)
    ∙ ap (λ (k : Bool). cond k (1 + prefix_len (stands_at at) cs) 0) here
    ∙ ap (λ n. 1 + n) (sym (length-prefix_len (stands_at at) cs))
same_later (c ∷ cs) (suc i) at h e = same_later cs i at (omega arith) e

pub same_more : (cells : List Cell) (column at : ℕ) → column < length cells → cell_place cells column 0 ≡ at → same_place cells column at ≡ 1 + same_place cells (column + 1) at
same_more cells column at h e =
    let next : suc column ≡ column + 1 = omega arith in
    same_later cells column at h e ∙ ap (λ n. 1 + same_place cells n at) next

pub same_stop : (cells : List Cell) (column at : ℕ) → column < length cells → (cell_place cells column 0 == at) ≡ false → same_place cells column at ≡ 0
same_stop [] column at h e = absurd (omega arith)
same_stop (c ∷ cs) zero at h e = rw e refl
same_stop (c ∷ cs) (suc i) at h e = same_stop cs i at (omega arith) e

pub same_end : (cells : List Cell) (column at : ℕ) → length cells ≤ column → same_place cells column at ≡ 0
same_end [] zero at h = refl
same_end [] (suc i) at h = refl
same_end (c ∷ cs) zero at h = absurd (omega arith)
same_end (c ∷ cs) (suc i) at h = same_end cs i at (omega arith)
