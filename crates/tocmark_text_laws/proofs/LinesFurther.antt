-- The lines of a text after an empty line are its own, one further.
use Rattle.std.proofs.Common.{◌≡◌, ℕ, zero, suc, ◌+◌, ◌-◌, ◌^◌, ◌<◌, Bool, true, false, not, ◌==◌, ◌&&◌, ◌||◌, if◌then◌else◌, nat_lt, nat_le, List, [], ◌∷◌, length, map, refl, ap, ◌∙◌, arith}
use Rattle.std.proofs.lemmas.Bool.Decides.{nat_tests}
use Rattle.tocmark_read_scan.specs.Basic.{plus, byte_at, bytes_between}
use Rattle.tocmark_read_lines.specs.Lines.{ends_here, line_stop, line, last_line, lines_from, lines_of}
use native.Mathlib.Numerals.{unary_clauses}
use Prim.Native.Nat.compare
use Rattle.tocmark_text_laws.specs.Further.{line_on}

pub plus_on : (n : ℕ) → n + 1 < 2 ^ 64 - 1 → plus (suc n) 1 ≡ suc (plus n 1)
plus_on n h = omega arith

pub byte_on : (t : List ℕ) (b p : ℕ) → byte_at (b ∷ t) (suc p) ≡ byte_at t p
byte_on t b p = refl

pub le_on : (a b : ℕ) → nat_le (suc a) (suc b) ≡ nat_le a b
le_on a b = simp compare.suc-suc

pub lt_on : (a b : ℕ) → nat_lt (suc a) (suc b) ≡ nat_lt a b
lt_on a b = simp compare.suc-suc

pub between_on : (t : List ℕ) (b p q : ℕ) → bytes_between (b ∷ t) (suc p) (suc q) ≡ bytes_between t p q
between_on t b p q = simp (compare.suc-suc, unary_clauses)

pub ends_on : (t : List ℕ) (c b at : ℕ) → at + 1 < 2 ^ 64 - 1 → ends_here (c ∷ t) b (suc at) ≡ ends_here t b at
unfolding ends_here
ends_on t c b at h =
    ap (λ (n : ℕ). (b == 10) || ((b == 13) && not (byte_at (c ∷ t) n == 10)) || ((b == 13) && nat_le (suc (length t)) n)) (plus_on at h)
    ∙ ap (λ (k : Bool). (b == 10) || ((b == 13) && not (byte_at t (plus at 1) == 10)) || ((b == 13) && k)) (le_on (length t) (plus at 1))

stop_first : (t : List ℕ) (c start b : ℕ) → line_stop (c ∷ t) (suc start) b 1 ≡ suc (line_stop t start b 0)
unfolding line_stop
stop_first t c start b = rw (compare.suc-suc, later) (by (b == 10))
  where
    later : nat_lt start 0 ≡ false
    later = grind (arith, nat_tests)

    by : (ten : Bool) → (if ten && false && (byte_at (c ∷ t) 0 == 13) then 0 else 1) ≡ suc (if ten && false && (byte_at t 0 == 13) then 0 else 0)
    by true = refl
    by false = refl

pub stop_on : (t : List ℕ) (c start b at : ℕ) → line_stop (c ∷ t) (suc start) b (suc at) ≡ suc (line_stop t start b at)
unfolding line_stop
stop_on t c start b zero = stop_first t c start b
stop_on t c start b (suc m) = simp (compare.suc-suc, unary_clauses) (by (b == 10) (nat_le start m) (byte_at t m == 13))
  where
    by : (ten before feed : Bool) → (if ten && before && feed then suc m else suc (suc m)) ≡ suc (if ten && before && feed then m else suc m)
    by false before feed = refl
    by true false feed = refl
    by true true false = refl
    by true true true = refl

last_on : (before start end : ℕ) → before + 1 < 2 ^ 64 - 1 → last_line (suc before) (suc start) (suc end) ≡ map line_on (last_line before start end)
last_on before start end h = ap (λ (k : Bool). if k then line (suc before) (suc start) (suc end) (suc end) ∷ [] else []) (lt_on start end) ∙ by (nat_lt start end)
  where
    by : (k : Bool) → (if k then line (suc before) (suc start) (suc end) (suc end) ∷ [] else []) ≡ map line_on (if k then line before start end end ∷ [] else [])
    by true = ap (λ (n : ℕ). record { number = n; start = suc start; end = suc end; next = suc end } ∷ []) (plus_on before h)
    by false = refl

pub from_on : (t : List ℕ) (c before start at : ℕ) (rest : List ℕ) → before + length rest + 1 < 2 ^ 64 - 1 → at + length rest < 2 ^ 64 - 1
    → lines_from (c ∷ t) (suc before) (suc start) (suc at) rest ≡ map line_on (lines_from t before start at rest)
from_on t c before start at [] h k = last_on before start at (let q : before + 1 < 2 ^ 64 - 1 = omega arith in q)
from_on t c before start at (b ∷ bs) h k =
    ap (λ (e : Bool). if e then line (suc before) (suc start) (line_stop (c ∷ t) (suc start) b (suc at)) (suc at + 1) ∷ lines_from (c ∷ t) (suc before + 1) (suc at + 1) (suc at + 1) bs else lines_from (c ∷ t) (suc before) (suc start) (suc at + 1) bs) (ends_on t c b at small)
    ∙ by (ends_here t b at) (from_on t c (before + 1) (at + 1) (at + 1) bs (omega arith) (omega arith)) (from_on t c before start (at + 1) bs (omega arith) (omega arith))
  where
    small : at + 1 < 2 ^ 64 - 1
    small = omega arith

    low : before + 1 < 2 ^ 64 - 1
    low = omega arith

    further : suc at + 1 ≡ suc (at + 1)
    further = omega arith

    above : suc before + 1 ≡ suc (before + 1)
    above = omega arith

    by : (e : Bool)
        → lines_from (c ∷ t) (suc (before + 1)) (suc (at + 1)) (suc (at + 1)) bs ≡ map line_on (lines_from t (before + 1) (at + 1) (at + 1) bs)
        → lines_from (c ∷ t) (suc before) (suc start) (suc (at + 1)) bs ≡ map line_on (lines_from t before start (at + 1) bs)
        → (if e then line (suc before) (suc start) (line_stop (c ∷ t) (suc start) b (suc at)) (suc at + 1) ∷ lines_from (c ∷ t) (suc before + 1) (suc at + 1) (suc at + 1) bs else lines_from (c ∷ t) (suc before) (suc start) (suc at + 1) bs)
        ≡ map line_on (if e then line before start (line_stop t start b at) (at + 1) ∷ lines_from t (before + 1) (at + 1) (at + 1) bs else lines_from t before start (at + 1) bs)
    by true next more = rw (plus_on before low, further, above, stop_on t c start b at, next) refl
    by false next more = rw (further, more) refl

pub lines_on : (t : List ℕ) → length t + 2 < 2 ^ 64 → lines_of (10 ∷ t) ≡ (record { number = 1; start = 0; end = 0; next = 1 }) ∷ map line_on (lines_of t)
unfolding ends_here line_stop
lines_on t h = rw (from_on t 10 0 0 0 t (omega arith) (omega arith)) refl
