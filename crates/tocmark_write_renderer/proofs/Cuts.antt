-- The runs of a text's front.
use Rattle.std.proofs.Common.{◌≡◌, ◌==◌, ◌≤◌, ◌+◌, ◌-◌, ℕ, zero, suc, Bool, true, false, if◌then◌else◌, List, [], ◌∷◌, refl, ap, ◌∙◌, arith, drop, length, ltb, min}
use Rattle.std.proofs.lemmas.Bool.{and_parts, eqb-true, le-ltb, lt-ltb}
use Rattle.tocmark_spelling.specs.Runs.{is_marker}
use Rattle.tocmark_write_renderer.specs.RunsOf.{AreInOrder, begun, cut_at, ends_at, longer, part_before, runs_of, with_marker}
use Rattle.tocmark_write_renderer.specs.declared.marker_runs.MarkerRun.{MarkerRun}
use Rattle.tocmark_write_renderer.proofs.Order.{runs-order}

-- what is of the first of some runs, or of the others
abbrev cut_if : Bool → ℕ → MarkerRun → List MarkerRun → List MarkerRun
cut_if b place r rs = if b then part_before place r ∷ rs else cut_at place rs

-- all of them are before the place where they end
pub cut-none : (n : ℕ) (rs : List MarkerRun) → AreInOrder n rs → cut_at n rs ≡ rs
cut-none n [] h = refl
cut-none n (r ∷ rs) h =
    let whole : min r.length (n - r.start) ≡ r.length = omega (arith, h.0, h.1) in
    ap (λ b. cut_if b n r rs) (lt-ltb r.start n (omega (arith, h.0, h.1))) ∙ ap (λ m. record { marker = r.marker; start = r.start; length = m } ∷ rs) whole

-- a marker after a place
cut-with : (b n place : ℕ) (rs : List MarkerRun) → place ≤ n → cut_at place (with_marker b n rs) ≡ cut_at place rs
cut-with b n place [] le = ap (λ x. cut_if x place (begun b n) []) (le-ltb n place le)
cut-with b n place (r ∷ rs) le = by (ends_at b n r) refl
  where
    by : (x : Bool) → ends_at b n r ≡ x → cut_at place (if x then longer r ∷ rs else begun b n ∷ r ∷ rs) ≡ cut_at place (r ∷ rs)
    by true e =
        let parts = and_parts (r.marker == b) (r.start + r.length == n) e in
        let ends : r.start + r.length ≡ n = eqb-true (r.start + r.length) n parts.1 in
        let same : min (r.length + 1) (place - r.start) ≡ min r.length (place - r.start) = omega (arith, ends, le) in
        ap (λ m. if ltb r.start place then record { marker = r.marker; start = r.start; length = m } ∷ rs else cut_at place rs) same
    by false e = ap (λ x. cut_if x place (begun b n) (r ∷ rs)) (le-ltb n place le)

-- of a text that is given backwards
pub cut-is : (place k : ℕ) (bs : List ℕ) → place + k ≡ length bs → cut_at place (runs_of bs) ≡ runs_of (drop k bs)
cut-is place zero bs e = ap (λ n. cut_at n (runs_of bs)) (omega (arith, e)) ∙ cut-none (length bs) (runs_of bs) (runs-order bs)
cut-is place (suc k) [] e = absurd (omega (arith, e))
cut-is place (suc k) (b ∷ bs) e =
    let sum : place + k ≡ length bs = omega (arith, e) in
    by (is_marker b) (omega (arith, sum)) (cut-is place k bs sum)
  where
    by : (x : Bool) → place ≤ length bs → cut_at place (runs_of bs) ≡ runs_of (drop k bs)
        → cut_at place (if x then with_marker b (length bs) (runs_of bs) else runs_of bs) ≡ runs_of (drop k bs)
    by true le h = cut-with b (length bs) place (runs_of bs) le ∙ h
    by false le h = h
