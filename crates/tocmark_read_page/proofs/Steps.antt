-- How a step is repeated.
use Rattle.std.proofs.Common.{◌≡◌, ℕ, zero, suc, ◌-◌, ◌<◌, refl, arith}
use native.Mathlib.Numerals.{unary_clauses}
use Rattle.tocmark_read_page.specs.Pages.{times}

pub times_zero : {S : Type 0} (step : S → S) (n : ℕ) (s : S) → n ≡ 0 → times step n s ≡ s
unfolding times
times_zero step zero s e = refl
times_zero step (suc n) s e = absurd (omega arith)

pub times_more : {S : Type 0} (step : S → S) (n : ℕ) (s : S) → 0 < n → times step n s ≡ times step (n - 1) (step s)
unfolding times
times_more step zero s h = absurd (omega arith)
times_more step (suc n) s h = simp unary_clauses refl
