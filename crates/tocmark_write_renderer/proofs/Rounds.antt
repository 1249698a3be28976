-- The run round a place, by the runs of the text.
use Rattle.std.proofs.Common.{◌≡◌, ◌==◌, ◌<◌, ◌≤◌, ◌+◌, ◌-◌, ◌&&◌, ℕ, zero, suc, Bool, true, false, if◌then◌else◌, List, [], ◌∷◌, refl, sym, ap, ◌∙◌, arith, length, leb, reverse}
use Rattle.std.proofs.lemmas.Bool.{and_from, and_left, and_parts, and_right, eqb-false, eqb-true, le-leb, leb-false, leb-true, lt-leb}
use Rattle.std.proofs.lemmas.List.{length-reverse}
use Rattle.tocmark_spelling.specs.Runs.{is_marker, run_around}
use Rattle.tocmark_write_renderer.specs.RunsOf.{AreInOrder, begun, covers, ends_at, length_round, longer, runs_of, with_marker}
use Rattle.tocmark_write_renderer.specs.declared.marker_runs.MarkerRun.{MarkerRun}
use Rattle.tocmark_write_renderer.proofs.Order.{runs-order}
use Rattle.tocmark_write_renderer.proofs.Ends.{end_length, end-is, other-byte, same-end}
use Rattle.tocmark_write_renderer.proofs.Backwards.{added, front_run, round_back, round-back}

-- the length of a run, or what the others say
abbrev or_else : Bool → ℕ → ℕ → ℕ
or_else b x y = if b then x else y

-- runs that end before a place
pub far : (c m place : ℕ) (rs : List MarkerRun) → AreInOrder m rs → m < place → length_round c place rs ≡ 0
far c m place [] h l = refl
far c m place (r ∷ rs) h l =
    ap (λ b. or_else b r.length (length_round c place rs)) (and_right (r.marker == c) _ (and_right (leb r.start place) _ (lt-leb (place - r.start) r.length (omega (arith, h.1, l)))))
    ∙ far c r.start place rs h.2 (omega (arith, h.0, h.1, l))

covers-end : (c n : ℕ) (r : MarkerRun) → r.start + r.length ≤ n → covers c n r ≡ ends_at c n r
covers-end c n r le = ap (λ b. (r.marker == c) && b) (by (r.start + r.length == n) refl)
  where
    by : (x : Bool) → (r.start + r.length == n) ≡ x → (leb r.start n && leb (n - r.start) r.length) ≡ x
    by true e = let same = eqb-true (r.start + r.length) n e in and_from _ _ (le-leb r.start n (omega (arith, le))) (le-leb (n - r.start) r.length (omega (arith, same)))
    by false e = and_right (leb r.start n) _ (lt-leb (n - r.start) r.length (less e))
      where
        less : (r.start + r.length == n) ≡ false → r.length < n - r.start
        less q = let differ : r.start + r.length ≡ n → ⊥ = eqb-false (r.start + r.length) n q in omega (arith, le, differ)

-- at the end of the text
at-end : (c n : ℕ) (rs : List MarkerRun) → AreInOrder n rs → length_round c n rs ≡ end_length c n rs
at-end c n [] h = refl
at-end c n (r ∷ rs) h =
    ap (λ b. or_else b r.length (length_round c n rs)) (covers-end c n r h.1)
    ∙ ap (or_else (ends_at c n r) r.length) (far c r.start n rs h.2 (omega (arith, h.0, h.1)))

-- what one more marker adds
abbrev more : ℕ → ℕ → ℕ → ℕ → List MarkerRun → ℕ
more c k b n rs = if (b == c) && leb k (end_length c n rs) then 1 else 0

-- a marker that begins a run
module _ (c b place k n : ℕ) (sum : place + k ≡ n) where
  stands : (k : ℕ) → place + k ≡ n → (leb n place && leb (place - n) 1) ≡ leb k 0
  stands zero e = and_from (leb n place) (leb (place - n) 1) (le-leb n place (omega (arith, e))) (le-leb (place - n) 1 (omega (arith, e)))
  stands (suc k) e = and_left (leb n place) (leb (place - n) 1) (lt-leb n place (omega (arith, e))) ∙ sym (lt-leb (suc k) 0 (omega arith))

  fresh : (rs : List MarkerRun) → AreInOrder n rs → ((b == c) ≡ true → end_length c n rs ≡ 0)
      → length_round c place (begun b n ∷ rs) ≡ length_round c place rs + more c k b n rs
  fresh rs h none =
      ap (λ x. or_else ((b == c) && x) 1 (length_round c place rs)) (stands k sum) ∙ by (b == c) k refl sum
    where
      by : (x : Bool) (k : ℕ) → (b == c) ≡ x → place + k ≡ n
          → or_else (x && leb k 0) 1 (length_round c place rs) ≡ length_round c place rs + (if x && leb k (end_length c n rs) then 1 else 0)
      by false k e s = omega arith
      by true zero e s =
          let same : place ≡ n = omega (arith, s) in
          let zero_at : length_round c place rs ≡ 0 = ap (λ p. length_round c p rs) same ∙ at-end c n rs h ∙ none e in
          let one : or_else (leb zero (end_length c n rs)) 1 0 ≡ 1 = ap (λ z. or_else z 1 0) (le-leb 0 (end_length c n rs) (omega arith)) in
          omega (arith, zero_at, one)
      by true (suc k) e s =
          let lost = lt-leb (suc k) 0 (omega arith) in
          let gained : or_else (leb (suc k) (end_length c n rs)) 1 0 ≡ 0 = ap (λ m. or_else (leb (suc k) m) 1 0) (none e) ∙ ap (λ z. or_else z 1 0) lost in
          ap (λ z. or_else z 1 (length_round c place rs)) lost ∙ omega (arith, gained)

  -- one that goes on a run
  module _ (r : MarkerRun) (rs : List MarkerRun) (h : ends_at b n r ≡ true) where
    parts : ((r.marker == b) ≡ true) × ((r.start + r.length == n) ≡ true)
    parts = and_parts (r.marker == b) (r.start + r.length == n) h

    ends : r.start + r.length ≡ n
    ends = eqb-true (r.start + r.length) n parts.1

    same : (r.marker == c) ≡ (b == c)
    same = ap (λ m. m == c) (eqb-true r.marker b parts.0)

    near : leb (place - r.start) r.length ≡ true
    near = le-leb (place - r.start) r.length (omega (arith, ends, sum))

    near-too : leb (place - r.start) (r.length + 1) ≡ true
    near-too = le-leb (place - r.start) (r.length + 1) (omega (arith, ends, sum))

    -- the run at the end is this one
    ends-here : (b == c) ≡ true → end_length c n (r ∷ rs) ≡ r.length
    ends-here e = ap (λ z. or_else z r.length 0) (and_from (r.marker == c) (r.start + r.length == n) (same ∙ e) parts.1)

    gain : (b == c) ≡ true → more c k b n (r ∷ rs) ≡ or_else (leb k r.length) 1 0
    gain e = ap (λ z. or_else (z && leb k (end_length c n (r ∷ rs))) 1 0) e ∙ ap (λ m. or_else (leb k m) 1 0) (ends-here e)

    goes-on : length_round c place (longer r ∷ rs) ≡ length_round c place (r ∷ rs) + more c k b n (r ∷ rs)
    goes-on = by (b == c) (leb r.start place) refl refl
      where
        by : (x y : Bool) → (b == c) ≡ x → leb r.start place ≡ y → length_round c place (longer r ∷ rs) ≡ length_round c place (r ∷ rs) + more c k b n (r ∷ rs)
        by false y e f =
            let old = ap (λ z. or_else z r.length (length_round c place rs)) (and_left (r.marker == c) (leb r.start place && leb (place - r.start) r.length) (same ∙ e)) in
            let none : more c k b n (r ∷ rs) ≡ 0 = ap (λ z. or_else (z && leb k (end_length c n (r ∷ rs))) 1 0) e in
            ap (λ z. or_else z (r.length + 1) (length_round c place rs)) (and_left (r.marker == c) (leb r.start place && leb (place - r.start) (r.length + 1)) (same ∙ e))
            ∙ omega (arith, none, old)
        by true true e f =
            let old = ap (λ z. or_else z r.length (length_round c place rs)) (and_from (r.marker == c) (leb r.start place && leb (place - r.start) r.length) (same ∙ e) (and_from (leb r.start place) _ f near)) in
            let starts : r.start ≤ place = leb-true r.start place f in
            let one : more c k b n (r ∷ rs) ≡ 1 = gain e ∙ ap (λ z. or_else z 1 0) (le-leb k r.length (omega (arith, starts, ends, sum))) in
            ap (λ z. or_else z (r.length + 1) (length_round c place rs)) (and_from (r.marker == c) (leb r.start place && leb (place - r.start) (r.length + 1)) (same ∙ e) (and_from (leb r.start place) _ f near-too))
            ∙ omega (arith, one, old)
        by true false e f =
            let old = ap (λ z. or_else z r.length (length_round c place rs)) (and_right (r.marker == c) (leb r.start place && leb (place - r.start) r.length) (and_left (leb r.start place) _ f)) in
            let later : place < r.start = leb-false r.start place f in
            let none : more c k b n (r ∷ rs) ≡ 0 = gain e ∙ ap (λ z. or_else z 1 0) (lt-leb k r.length (omega (arith, later, ends, sum))) in
            ap (λ z. or_else z (r.length + 1) (length_round c place rs)) (and_right (r.marker == c) (leb r.start place && leb (place - r.start) (r.length + 1)) (and_left (leb r.start place) _ f))
            ∙ omega (arith, none, old)

  marked : (rs : List MarkerRun) → AreInOrder n rs → length_round c place (with_marker b n rs) ≡ length_round c place rs + more c k b n rs
  marked [] h = fresh [] h (λ _. refl)
  marked (r ∷ rs) h = by (ends_at b n r) refl
    where
      by : (x : Bool) → ends_at b n r ≡ x → length_round c place (if x then longer r ∷ rs else begun b n ∷ r ∷ rs) ≡ length_round c place (r ∷ rs) + more c k b n (r ∷ rs)
      by true e = goes-on r rs e
      by false e = fresh (r ∷ rs) h (λ same. ap (λ z. or_else z r.length 0) (same-end b c n r same e))

-- the run round a place, by the runs of a text that is given backwards
round-is : (c place k : ℕ) (bs : List ℕ) → is_marker c ≡ true → place + k ≡ length bs → length_round c place (runs_of bs) ≡ round_back c k bs
round-is c place zero bs m e =
    ap (λ p. length_round c p (runs_of bs)) (omega (arith, e)) ∙ at-end c (length bs) (runs_of bs) (runs-order bs) ∙ end-is c bs m
round-is c place (suc k) [] m e = absurd (omega (arith, e))
round-is c place (suc k) (b ∷ bs) m e =
    let sum : place + k ≡ length bs = omega (arith, e) in
    by (is_marker b) refl sum (round-is c place k bs m sum)
  where
    by : (x : Bool) → is_marker b ≡ x → place + k ≡ length bs → length_round c place (runs_of bs) ≡ round_back c k bs
        → length_round c place (if x then with_marker b (length bs) (runs_of bs) else runs_of bs) ≡ round_back c k bs + added c k b bs
    by true q sum h =
        marked c b place k (length bs) sum (runs_of bs) (runs-order bs)
        ∙ ap (λ n. n + more c k b (length bs) (runs_of bs)) h
        ∙ ap (λ n. round_back c k bs + or_else ((b == c) && leb k n) 1 0) (end-is c bs m)
    by false q sum h =
        let none : added c k b bs ≡ 0 = ap (λ z. or_else (z && leb k (front_run c bs)) 1 0) (other-byte c b m q) in
        omega (arith, none, h)

-- the run round a place of a text
pub round-run : (c place : ℕ) (text : List ℕ) → is_marker c ≡ true → place ≤ length text → length_round c place (runs_of (reverse text)) ≡ run_around c place text
round-run c place text m le =
    let k = length text - place in
    let sum : place + k ≡ length text = omega (arith, le) in
    round-is c place k (reverse text) m (sum ∙ sym (length-reverse text)) ∙ round-back text place k c sum
