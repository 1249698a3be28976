-- The run at a text's end, and the last run.
use Rattle.std.proofs.Common.{◌≡◌, ◌==◌, ◌<◌, ◌+◌, ◌&&◌, ℕ, suc, Bool, true, false, if◌then◌else◌, List, [], ◌∷◌, refl, sym, ap, ◌∙◌, arith, length}
use Rattle.std.specs.List.{prefix_len}
use Rattle.std.proofs.lemmas.Bool.{and_from, and_parts, and_right, cond-false, eq-eqb, eqb-true, false≢true, ne_eqb}
use Rattle.tocmark_spelling.specs.Runs.{is_marker, last_run_of}
use Rattle.tocmark_write_renderer.specs.RunsOf.{AreInOrder, begun, ends_at, longer, runs_of, with_marker}
use Rattle.tocmark_write_renderer.specs.declared.marker_runs.MarkerRun.{MarkerRun}
use Rattle.tocmark_write_renderer.proofs.Order.{runs-order}

-- how long the run of this marker is that ends at a place
abbrev pub end_length : ℕ → ℕ → List MarkerRun → ℕ
end_length c n [] = 0
end_length c n (r ∷ rs) = if ends_at c n r then r.length else 0

-- how long the last run is
abbrev pub last_length : List MarkerRun → ℕ
last_length [] = 0
last_length (r ∷ rs) = r.length

ends-none : (c m n : ℕ) (rs : List MarkerRun) → AreInOrder m rs → m < n → end_length c n rs ≡ 0
ends-none c m n [] h l = refl
ends-none c m n (r ∷ rs) h l =
    cond-false (ends_at c n r) r.length 0 (and_right (r.marker == c) (r.start + r.length == n) (ne_eqb (r.start + r.length) n (λ e. omega (arith, e, h.1, l))))

-- a run of another marker, or one that a byte goes on
abbrev end_with : ℕ → ℕ → ℕ → List MarkerRun → ℕ
end_with c b n rs = if b == c then 1 + end_length c n rs else 0

fresh-end : (c b n : ℕ) (rs : List MarkerRun) → ((b == c) ≡ true → end_length c n rs ≡ 0) → (if (b == c) && (n + 1 == suc n) then 1 else 0) ≡ end_with c b n rs
fresh-end c b n rs none = by (b == c) refl
  where
    one : (n + 1 == suc n) ≡ true
    one = eq-eqb (n + 1) (suc n) (omega arith)

    by : (x : Bool) → (b == c) ≡ x → (if x && (n + 1 == suc n) then 1 else 0) ≡ (if x then 1 + end_length c n rs else 0)
    by true e = ap (λ (y : Bool). if y then 1 else 0) one ∙ omega (arith, none e)
    by false e = refl

-- a run doesn't end with this marker either
pub same-end : (b c n : ℕ) (r : MarkerRun) → (b == c) ≡ true → ends_at b n r ≡ false → ends_at c n r ≡ false
same-end b c n r e h = ap (λ x. ends_at x n r) (sym (eqb-true b c e)) ∙ h

longer-end : (c b n : ℕ) (r : MarkerRun) (rs : List MarkerRun) → ends_at b n r ≡ true → end_length c (suc n) (longer r ∷ rs) ≡ end_with c b n (r ∷ rs)
longer-end c b n r rs h = by (b == c) refl
  where
    parts : ((r.marker == b) ≡ true) × ((r.start + r.length == n) ≡ true)
    parts = and_parts (r.marker == b) (r.start + r.length == n) h

    marker : r.marker ≡ b
    marker = eqb-true r.marker b parts.0

    ends : r.start + r.length ≡ n
    ends = eqb-true (r.start + r.length) n parts.1

    same : (r.marker == c) ≡ (b == c)
    same = ap (λ m. m == c) marker

    next : (r.start + (r.length + 1) == suc n) ≡ true
    next = eq-eqb (r.start + (r.length + 1)) (suc n) (omega (arith, ends))

    by : (x : Bool) → (b == c) ≡ x → end_length c (suc n) (longer r ∷ rs) ≡ (if x then 1 + end_length c n (r ∷ rs) else 0)
    by true e =
        ap (λ (y : Bool). if y then r.length + 1 else 0) (and_from (r.marker == c) _ (same ∙ e) next)
        ∙ omega (arith, ap (λ (y : Bool). if y then r.length else 0) (and_from (r.marker == c) (r.start + r.length == n) (same ∙ e) parts.1))
    by false e = ap (λ (y : Bool). if y && (r.start + (r.length + 1) == suc n) then r.length + 1 else 0) (same ∙ e)

ends-with : (c b n : ℕ) (rs : List MarkerRun) → end_length c (suc n) (with_marker b n rs) ≡ end_with c b n rs
ends-with c b n [] = fresh-end c b n [] (λ _. refl)
ends-with c b n (r ∷ rs) = by (ends_at b n r) refl
  where
    by : (x : Bool) → ends_at b n r ≡ x → end_length c (suc n) (if x then longer r ∷ rs else begun b n ∷ r ∷ rs) ≡ end_with c b n (r ∷ rs)
    by true e = longer-end c b n r rs e
    by false e = fresh-end c b n (r ∷ rs) (λ same. ap (λ (y : Bool). if y then r.length else 0) (same-end b c n r same e))

-- what is no marker isn't this one
pub other-byte : (c b : ℕ) → is_marker c ≡ true → is_marker b ≡ false → (b == c) ≡ false
other-byte c b m e = ne_eqb b c (λ same. false≢true (sym e ∙ ap is_marker same ∙ m))

-- the run of a marker at the end
pub end-is : (c : ℕ) (bs : List ℕ) → is_marker c ≡ true → end_length c (length bs) (runs_of bs) ≡ prefix_len (λ b. b == c) bs
end-is c [] m = refl
end-is c (b ∷ bs) m = by (is_marker b) refl (end-is c bs m)
  where
    by : (x : Bool) → is_marker b ≡ x → end_length c (length bs) (runs_of bs) ≡ prefix_len (λ y. y == c) bs
        → end_length c (suc (length bs)) (if x then with_marker b (length bs) (runs_of bs) else runs_of bs) ≡ prefix_len (λ y. y == c) (b ∷ bs)
    by true e h = ends-with c b (length bs) (runs_of bs) ∙ ap (λ n. if b == c then 1 + n else 0) h
    by false e h =
        ends-none c (length bs) (suc (length bs)) (runs_of bs) (runs-order bs) (omega arith)
        ∙ ap (λ (y : Bool). if y then 1 + prefix_len (λ z. z == c) bs else 0) (sym (other-byte c b m e))

last-with : (b n : ℕ) (rs : List MarkerRun) → last_length (with_marker b n rs) ≡ suc (end_length b n rs)
last-with b n [] = refl
last-with b n (r ∷ rs) = by (ends_at b n r)
  where
    by : (x : Bool) → last_length (if x then longer r ∷ rs else begun b n ∷ r ∷ rs) ≡ suc (if x then r.length else 0)
    by true = omega arith
    by false = refl

-- the last run
pub last-is : (bs : List ℕ) → last_length (runs_of bs) ≡ last_run_of bs
last-is [] = refl
last-is (b ∷ bs) = by (is_marker b) refl (last-is bs)
  where
    by : (x : Bool) → is_marker b ≡ x → last_length (runs_of bs) ≡ last_run_of bs
        → last_length (if x then with_marker b (length bs) (runs_of bs) else runs_of bs) ≡ (if x then suc (prefix_len (λ c. c == b) bs) else last_run_of bs)
    by true e h = last-with b (length bs) (runs_of bs) ∙ ap suc (end-is b bs e)
    by false e h = h
