-- How repeated steps unfold.
use Rattle.std.proofs.Common.{◌≡◌, ℕ, zero, suc, ◌-◌, ◌<◌, Option, Some, None, refl, ap, sym, arith}
use native.Mathlib.Numerals.{unary_clauses}
use Rattle.tocmark_read_scan.specs.Repeat.{going, repeated, going_on, iterated}

pub repeated_zero : {C S : Type 0} (once : C → S → S × Option C) (k : ℕ) (c : C) (s : S) → k ≡ 0 → repeated once k c s ≡ (s, c)
unfolding repeated
repeated_zero once zero c s e = refl
repeated_zero once (suc k) c s e = absurd (omega arith)

pub repeated_stop : {C S : Type 0} (once : C → S → S × Option C) (k : ℕ) (c : C) (s t : S) → 0 < k → (t, None) ≡ once c s → repeated once k c s ≡ (t, c)
unfolding repeated
repeated_stop once zero c s t h e = absurd (omega arith)
repeated_stop once (suc k) c s t h e = ap (going (λ d u. repeated once k d u) c) (sym e)

pub repeated_more : {C S : Type 0} (once : C → S → S × Option C) (k : ℕ) (c d : C) (s t : S) → 0 < k → (t, Some d) ≡ once c s → repeated once k c s ≡ repeated once (k - 1) d t
unfolding repeated
repeated_more once zero c d s t h e = absurd (omega arith)
repeated_more once (suc k) c d s t h e = simp unary_clauses (ap (going (λ e2 u. repeated once k e2 u) c) (sym e))

pub iterated_zero : {C : Type 0} (next : C → Option C) (k : ℕ) (c : C) → k ≡ 0 → iterated next k c ≡ c
unfolding iterated
iterated_zero next zero c e = refl
iterated_zero next (suc k) c e = absurd (omega arith)

pub iterated_stop : {C : Type 0} (next : C → Option C) (k : ℕ) (c : C) → 0 < k → None ≡ next c → iterated next k c ≡ c
unfolding iterated
iterated_stop next zero c h e = absurd (omega arith)
iterated_stop next (suc k) c h e = ap (going_on (λ d. iterated next k d) c) (sym e)

pub iterated_more : {C : Type 0} (next : C → Option C) (k : ℕ) (c d : C) → 0 < k → Some d ≡ next c → iterated next k c ≡ iterated next (k - 1) d
unfolding iterated
iterated_more next zero c d h e = absurd (omega arith)
iterated_more next (suc k) c d h e = simp unary_clauses (ap (going_on (λ d2. iterated next k d2) c) (sym e))
