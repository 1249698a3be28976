-- How a search down the stack unfolds.
use Rattle.std.proofs.Common.{◌≡◌, ℕ, zero, suc, ◌-◌, ◌<◌, List, refl, arith}
use native.Mathlib.Numerals.{unary_clauses}
use Rattle.std.specs.Prelude.{slice_get}
use Rattle.tocmark_read_spans.specs.Emphasis.{found, found_at}
use Rattle.tocmark_read_spans.specs.declared.run.Run.{Run}

pub found_down : (stack : List Run) (closer : Run) (bottom k : ℕ) → 0 < k → found stack closer bottom k ≡ found_at (slice_get stack (k - 1)) closer bottom (k - 1) (found stack closer bottom (k - 1))
found_down stack closer bottom zero h = absurd (omega arith)
found_down stack closer bottom (suc k) h = simp unary_clauses refl
