-- Runs of backticks: a code span is closed by the first run of as many that follows, if there is one.
use Rattle.std.proofs.Common.{◌≡◌, ℕ, zero, suc, ◌+◌, ◌-◌, ◌^◌, ◌<◌, ◌≤◌, Bool, true, false, not, ◌==◌, ◌||◌, nat_lt, if◌then◌else◌, List, [], ◌∷◌, ◌++◌, length, drop, replicate, refl, ap, sym, subst, ◌∙◌, arith, true≢false}
use Rattle.std.proofs.lemmas.Bool.Decides.{nat_tests}
use Rattle.std.specs.Prelude.{Option, Some, None, slice_get, slice_set, take_while, unwrap_or}
use Rattle.tocmark_read_scan.specs.Basic.{plus, byte_at}
use Rattle.tocmark_read_scan.specs.Class.{is_in, run_end}
use Rattle.tocmark_read_scan.specs.Repeat.{iterated, going_on}
use Rattle.tocmark_read_scan.specs.declared.class.Class.TheVariants.{Only, Except}
use Rattle.tocmark_read_scan.proofs.PlainTests.{eq_of, is_not}
use Rattle.tocmark_read_spans.specs.Tick.{State, padded, noted, run_from, noted_run, run_noted, ticks_start, last_ticks, next_run}
use Rattle.tocmark_inline_laws.proofs.Breaks.{got_front}
use Rattle.tocmark_inline_laws.proofs.Plains.{drop_past, past_within, byte_is, Front, front_of}
use Rattle.tocmark_inline_laws.proofs.Stretches.{got}

-- the bytes between two places pass a test, and the one after them doesn't
pub record Spans (bytes : List ℕ) (g : ℕ → Bool) (q e : ℕ) : Type 0 where
  pub from : q ≤ e
  pub within : e ≤ length bytes
  pub each : (j : ℕ) → q ≤ j → j < e → g (byte_at bytes j) ≡ true
  pub stop : e < length bytes → g (byte_at bytes e) ≡ false

spans : (bytes : List ℕ) (g : ℕ → Bool) (q : ℕ) → q ≤ length bytes → length bytes + 1 < 2 ^ 64 → Spans bytes g q (plus q (length (take_while g (drop q bytes))))
spans bytes g q l fits = subst (Spans bytes g q) (sym at) (record {
  from = omega arith;
  within = omega (arith, m);
  each = λ j a b. subst (λ n. g (byte_at bytes n) ≡ true) (let k : q + (j - q) ≡ j = omega (arith, a) in k) (byte_is (λ c. g c ≡ true) bytes f.text f.rest q (j - q) f.whole f.each (omega (arith, a, b)));
  stop = λ b. f.ends (byte_at bytes (q + length f.text)) (ap (λ ys. slice_get ys 0) (sym (drop_past bytes f.text f.rest q f.whole)) ∙ got_front bytes (q + length f.text) ∙ got bytes (q + length f.text) b);
})
  where
    f : Front g (drop q bytes)
    f = front_of g (drop q bytes)

    m : q + length f.text + length f.rest ≡ length bytes
    m = past_within bytes f.text f.rest q l f.whole

    at : plus q (length (take_while g (drop q bytes))) ≡ q + length f.text
    at = ap (λ xs. plus q (length xs)) f.taken ∙ (let k : plus q (length f.text) ≡ q + length f.text = omega (arith, m) in k)

-- where a run of backticks from a place on ends, and where one begins
abbrev pub ticks_to : List ℕ → ℕ → ℕ
ticks_to bytes q = run_end bytes q (Only 96)

abbrev pub ticks_at : List ℕ → ℕ → ℕ
ticks_at bytes q = run_end bytes q (Except 96)

pub ticks_span : (bytes : List ℕ) (q : ℕ) → q ≤ length bytes → length bytes + 1 < 2 ^ 64 → Spans bytes (λ c. c == 96) q (ticks_to bytes q)
unfolding run_end is_in
ticks_span bytes q l fits = spans bytes (λ c. c == 96) q l fits

pub others_span : (bytes : List ℕ) (q : ℕ) → q ≤ length bytes → length bytes + 1 < 2 ^ 64 → Spans bytes (λ c. not (c == 96)) q (ticks_at bytes q)
unfolding run_end is_in
others_span bytes q l fits = spans bytes (λ c. not (c == 96)) q l fits

-- a run begins where its first byte is
pub begins_run : (bytes : List ℕ) (q : ℕ) → q ≤ length bytes → length bytes + 1 < 2 ^ 64 → ticks_at bytes q < length bytes → ticks_at bytes q < ticks_to bytes (ticks_at bytes q)
begins_run bytes q l fits inner = by (nat_lt (ticks_at bytes q) (ticks_to bytes (ticks_at bytes q))) refl
  where
    o : Spans bytes (λ c. not (c == 96)) q (ticks_at bytes q)
    o = others_span bytes q l fits

    t : Spans bytes (λ c. c == 96) (ticks_at bytes q) (ticks_to bytes (ticks_at bytes q))
    t = ticks_span bytes (ticks_at bytes q) o.within fits

    tick : (b : Bool) → not b ≡ false → b ≡ true
    tick true h = refl
    tick false h = absurd (true≢false h)

    by : (z : Bool) → nat_lt (ticks_at bytes q) (ticks_to bytes (ticks_at bytes q)) ≡ z → ticks_at bytes q < ticks_to bytes (ticks_at bytes q)
    by true e = grind (arith, nat_tests, e)
    by false e =
        let le : ticks_to bytes (ticks_at bytes q) ≤ ticks_at bytes q = grind (arith, nat_tests, e) in
        let eq : ticks_to bytes (ticks_at bytes q) ≡ ticks_at bytes q = (let g : ticks_at bytes q ≤ ticks_to bytes (ticks_at bytes q) = t.from in omega arith) in
        let yes : (byte_at bytes (ticks_at bytes q) == 96) ≡ true = tick (byte_at bytes (ticks_at bytes q) == 96) (o.stop inner) in
        let no : (byte_at bytes (ticks_at bytes q) == 96) ≡ false = ap (λ n. byte_at bytes n == 96) (sym eq) ∙ t.stop (subst (λ n. n < length bytes) (sym eq) inner) in
        absurd (true≢false (sym yes ∙ no))

-- at the end there is none
pub ends_run : (bytes : List ℕ) (a : ℕ) → a ≤ length bytes → length bytes + 1 < 2 ^ 64 → length bytes ≤ a → ticks_to bytes a ≡ a
ends_run bytes a l fits past =
    let t : Spans bytes (λ c. c == 96) a (ticks_to bytes a) = ticks_span bytes a l fits in
    let b : a ≤ ticks_to bytes a = t.from in
    let c : ticks_to bytes a ≤ length bytes = t.within in
    omega arith

-- the number of a run
abbrev pub value_at : List ℕ → ℕ → ℕ
value_at last count = unwrap_or (slice_get last count) 0

zeros : (k j : ℕ) → value_at (replicate k 0) j ≡ 0
zeros zero j = refl
zeros (suc k) zero = refl
zeros (suc k) (suc j) = zeros k j

padded_value : (xs : List ℕ) (k j : ℕ) → value_at (xs ++ replicate k 0) j ≡ value_at xs j
padded_value [] k j = zeros k j
padded_value (x ∷ xs) k zero = refl
padded_value (x ∷ xs) k (suc j) = padded_value xs k j

zeros_room : (k j : ℕ) → j < k → j < length (replicate {A = ℕ} k 0)
zeros_room zero j h = absurd (omega (arith, h))
zeros_room (suc k) zero h = omega arith
zeros_room (suc k) (suc j) h = omega (arith, zeros_room k j (omega (arith, h)))

padded_room : (xs : List ℕ) (k j : ℕ) → j < length xs + k → j < length (xs ++ replicate {A = ℕ} k 0)
padded_room [] k j h = zeros_room k j (omega (arith, h))
padded_room (x ∷ xs) k zero h = omega arith
padded_room (x ∷ xs) k (suc j) h = omega (arith, padded_room xs k j (omega (arith, h)))

set_same : (xs : List ℕ) (i v : ℕ) → i < length xs → value_at (slice_set xs i v) i ≡ v
set_same [] i v h = absurd (omega arith)
set_same (x ∷ xs) zero v h = refl
set_same (x ∷ xs) (suc i) v h = set_same xs i v (omega arith)

set_other : (xs : List ℕ) (i j v : ℕ) → (i == j) ≡ false → value_at (slice_set xs i v) j ≡ value_at xs j
set_other [] i j v h = refl
set_other (x ∷ xs) zero zero v h = absurd (true≢false h)
set_other (x ∷ xs) zero (suc j) v h = refl
set_other (x ∷ xs) (suc i) zero v h = refl
set_other (x ∷ xs) (suc i) (suc j) v h = set_other xs i j v (let k : (suc i == suc j) ≡ false = h in grind (arith, nat_tests, k))

noted_same : (start end count : ℕ) (s : State) → (end - start == count) ≡ true → end < 2 ^ 64 - 1 → value_at (noted start end s).last count ≡ plus start 1
unfolding noted
noted_same start end count s h fits =
    subst (λ n. value_at (slice_set (padded (plus (end - start) 1) s.last) (end - start) (plus start 1)) n ≡ plus start 1) (eq_of (end - start) count h)
    (set_same (padded (plus (end - start) 1) s.last) (end - start) (plus start 1) (padded_room s.last (plus (end - start) 1 - length s.last) (end - start) (omega arith)))

noted_other : (start end count : ℕ) (s : State) → (end - start == count) ≡ false → value_at (noted start end s).last count ≡ value_at s.last count
unfolding noted
noted_other start end count s h = set_other (padded (plus (end - start) 1) s.last) (end - start) count (plus start 1) h ∙ padded_value s.last (plus (end - start) 1 - length s.last) count

noted_place : (start end : ℕ) (s : State) → (noted start end s).place ≡ end
unfolding noted
noted_place start end s = refl

-- the next run is noted, or there is none
runs_out : (bytes : List ℕ) (s : State) → (ticks_at bytes s.place == ticks_to bytes (ticks_at bytes s.place)) ≡ true → run_noted bytes s ≡ None
unfolding run_from
runs_out bytes s h = ap (λ (z : Bool). noted_run s (if z then None else Some (ticks_at bytes s.place, ticks_to bytes (ticks_at bytes s.place)))) h

runs_on : (bytes : List ℕ) (s : State) → (ticks_at bytes s.place == ticks_to bytes (ticks_at bytes s.place)) ≡ false → run_noted bytes s ≡ Some (noted (ticks_at bytes s.place) (ticks_to bytes (ticks_at bytes s.place)) s)
unfolding run_from
runs_on bytes s h = ap (λ (z : Bool). noted_run s (if z then None else Some (ticks_at bytes s.place, ticks_to bytes (ticks_at bytes s.place)))) h

-- what is known of the place where the search for a run ends
pub record Found (bytes : List ℕ) (count last V E a q : ℕ) : Type 0 where
  -- there is such a run
  pub some : E < length bytes → q < V
  pub long : E < length bytes → ticks_to bytes E ≡ E + count
  -- there is none
  pub lost : length bytes ≤ E → V ≡ last
  pub more : last ≤ V
  pub begun : a ≤ E
  pub within : E ≤ length bytes

-- at the end of the content no further run is looked for
stays : (bytes : List ℕ) (count a : ℕ) → ticks_to bytes a ≡ a → (g : ℕ) → iterated (next_run bytes count) g a ≡ a
unfolding iterated next_run
stays bytes count a h zero = refl
stays bytes count a h (suc g) =
    let self : (ticks_to bytes a == a) ≡ true = grind (arith, nat_tests, h) in
    ap (λ (z : Bool). going_on (λ d. iterated (next_run bytes count) g d) a (if z then None else Some (ticks_at bytes (ticks_to bytes a)))) (ap (λ (z : Bool). (ticks_to bytes a - a == count) || z) self ∙ or_yes (ticks_to bytes a - a == count))
  where
    or_yes : (z : Bool) → (z || true) ≡ true
    or_yes true = refl
    or_yes false = refl

none_found : (bytes : List ℕ) (count q a g V last : ℕ) → a ≤ length bytes → length bytes ≤ a → length bytes + 1 < 2 ^ 64 → V ≡ last → Found bytes count last V (iterated (next_run bytes count) g a) a q
none_found bytes count q a g V last l past fits e = subst (λ E. Found bytes count last V E a q) (sym (stays bytes count a (ends_run bytes a l fits past) g)) (record {
  some = λ b. absurd (omega (arith, b));
  long = λ b. absurd (omega (arith, b));
  lost = λ b. e;
  more = omega (arith, e);
  begun = omega arith;
  within = l;
})

stopped : (bytes : List ℕ) (count a g : ℕ) → (ticks_to bytes a - a == count) ≡ true → iterated (next_run bytes count) (suc g) a ≡ a
unfolding iterated next_run
stopped bytes count a g h = ap (λ (z : Bool). going_on (λ d. iterated (next_run bytes count) g d) a (if z || (ticks_to bytes a == a) then None else Some (ticks_at bytes (ticks_to bytes a)))) h

went_on : (bytes : List ℕ) (count a g : ℕ) → (ticks_to bytes a - a == count) ≡ false → (ticks_to bytes a == a) ≡ false → iterated (next_run bytes count) (suc g) a ≡ iterated (next_run bytes count) g (ticks_at bytes (ticks_to bytes a))
unfolding iterated next_run
went_on bytes count a g h k =
    ap (λ (z : Bool). going_on (λ d. iterated (next_run bytes count) g d) a (if z || (ticks_to bytes a == a) then None else Some (ticks_at bytes (ticks_to bytes a)))) h
    ∙ ap (λ (z : Bool). going_on (λ d. iterated (next_run bytes count) g d) a (if z then None else Some (ticks_at bytes (ticks_to bytes a)))) k

noted_none : (bytes : List ℕ) (f : ℕ) (s : State) → run_noted bytes s ≡ None → iterated (run_noted bytes) f s ≡ s
unfolding iterated
noted_none bytes zero s h = refl
noted_none bytes (suc f) s h = ap (λ (o : Option State). going_on (λ d. iterated (run_noted bytes) f d) s o) h

noted_some : (bytes : List ℕ) (f : ℕ) (s t : State) → run_noted bytes s ≡ Some t → iterated (run_noted bytes) (suc f) s ≡ iterated (run_noted bytes) f t
unfolding iterated
noted_some bytes f s t h = ap (λ (o : Option State). going_on (λ d. iterated (run_noted bytes) f d) s o) h

-- what a run that is noted makes of the number
value_noted : (bytes : List ℕ) (count a e : ℕ) (s : State) → a < e → e < 2 ^ 64 - 1 → value_at s.last count ≤ a → value_at (noted a e s).last count ≤ e
value_noted bytes count a e s l fits h = by (e - a == count) refl
  where
    by : (z : Bool) → (e - a == count) ≡ z → value_at (noted a e s).last count ≤ e
    by true k = subst (λ n. n ≤ e) (sym (noted_same a e count s k fits)) (omega arith)
    by false k = subst (λ n. n ≤ e) (sym (noted_other a e count s k)) (omega arith)

zero_steps : (bytes : List ℕ) (s : State) (count : ℕ) → value_at (iterated (run_noted bytes) 0 s).last count ≡ value_at s.last count
unfolding iterated
zero_steps bytes s count = refl

pub found_from : (bytes : List ℕ) (count : ℕ) → length bytes + 2 < 2 ^ 64 → (f g q : ℕ) (s : State) → s.place ≡ q → q ≤ length bytes → length bytes ≤ q + f → length bytes ≤ ticks_at bytes q + g → value_at s.last count ≤ q → Found bytes count (value_at s.last count) (value_at (iterated (run_noted bytes) f s).last count) (iterated (next_run bytes count) g (ticks_at bytes q)) (ticks_at bytes q) q
found_from bytes count fits zero g q s at l f_fits g_fits low =
    none_found bytes count q (ticks_at bytes q) g (value_at (iterated (run_noted bytes) 0 s).last count) (value_at s.last count) o.within (let b : q ≤ ticks_at bytes q = o.from in omega arith) (omega arith) (zero_steps bytes s count)
  where
    o : Spans bytes (λ c. not (c == 96)) q (ticks_at bytes q)
    o = others_span bytes q l (omega arith)
found_from bytes count fits (suc f) g q s at l f_fits g_fits low = by (found_from bytes count fits f) (a == e) refl g g_fits
  where
    a : ℕ
    a = ticks_at bytes q

    e : ℕ
    e = ticks_to bytes a

    o : Spans bytes (λ c. not (c == 96)) q (ticks_at bytes q)
    o = others_span bytes q l (omega arith)

    t : Spans bytes (λ c. c == 96) (ticks_at bytes q) (ticks_to bytes (ticks_at bytes q))
    t = ticks_span bytes (ticks_at bytes q) o.within (omega arith)

    moved : State
    moved = noted (ticks_at bytes q) (ticks_to bytes (ticks_at bytes q)) s

    Later : Type 0
    Later = (h p : ℕ) (u : State) → u.place ≡ p → p ≤ length bytes → length bytes ≤ p + f → length bytes ≤ ticks_at bytes p + h → value_at u.last count ≤ p → Found bytes count (value_at u.last count) (value_at (iterated (run_noted bytes) f u).last count) (iterated (next_run bytes count) h (ticks_at bytes p)) (ticks_at bytes p) p

    by : Later → (z : Bool) → (ticks_at bytes q == ticks_to bytes (ticks_at bytes q)) ≡ z → (h : ℕ) → length bytes ≤ ticks_at bytes q + h → Found bytes count (value_at s.last count) (value_at (iterated (run_noted bytes) (suc f) s).last count) (iterated (next_run bytes count) h (ticks_at bytes q)) (ticks_at bytes q) q
    by later true k h h_fits =
        none_found bytes count q (ticks_at bytes q) h (value_at (iterated (run_noted bytes) (suc f) s).last count) (value_at s.last count) o.within (past (nat_lt (ticks_at bytes q) (length bytes)) refl) (omega arith)
        (ap (λ (u : State). value_at u.last count) (noted_none bytes (suc f) s (runs_out bytes s (ap (λ n. ticks_at bytes n == ticks_to bytes (ticks_at bytes n)) at ∙ k))))
      where
        past : (z : Bool) → nat_lt (ticks_at bytes q) (length bytes) ≡ z → length bytes ≤ ticks_at bytes q
        past true x = absurd (let b : ticks_at bytes q < ticks_to bytes (ticks_at bytes q) = begins_run bytes q l (omega arith) (grind (arith, nat_tests, x)) in let c : ticks_at bytes q ≡ ticks_to bytes (ticks_at bytes q) = eq_of (ticks_at bytes q) (ticks_to bytes (ticks_at bytes q)) k in omega arith)
        past false x = grind (arith, nat_tests, x)
    by later false k zero h_fits = absurd (true≢false (sym same ∙ k))
      where
        none : ticks_to bytes (ticks_at bytes q) ≡ ticks_at bytes q
        none = ends_run bytes (ticks_at bytes q) o.within (omega arith) (omega arith)

        same : (ticks_at bytes q == ticks_to bytes (ticks_at bytes q)) ≡ true
        same = grind (arith, nat_tests, none)
    by later false k (suc h) h_fits = subst (λ V. Found bytes count (value_at s.last count) V (iterated (next_run bytes count) (suc h) (ticks_at bytes q)) (ticks_at bytes q) q) (sym reached) (so (ticks_to bytes (ticks_at bytes q) - ticks_at bytes q == count) refl)
      where
        further : ticks_at bytes q < ticks_to bytes (ticks_at bytes q)
        further = let b : ticks_at bytes q ≤ ticks_to bytes (ticks_at bytes q) = t.from in grind (arith, nat_tests, k)

        reached : value_at (iterated (run_noted bytes) (suc f) s).last count ≡ value_at (iterated (run_noted bytes) f (noted (ticks_at bytes q) (ticks_to bytes (ticks_at bytes q)) s)).last count
        reached = ap (λ (u : State). value_at u.last count) (noted_some bytes f s (noted (ticks_at bytes q) (ticks_to bytes (ticks_at bytes q)) s) (subst (λ n. run_noted bytes s ≡ Some (noted (ticks_at bytes n) (ticks_to bytes (ticks_at bytes n)) s)) at (runs_on bytes s (ap (λ n. ticks_at bytes n == ticks_to bytes (ticks_at bytes n)) at ∙ k))))

        small : value_at (noted (ticks_at bytes q) (ticks_to bytes (ticks_at bytes q)) s).last count ≤ ticks_to bytes (ticks_at bytes q)
        small = value_noted bytes count (ticks_at bytes q) (ticks_to bytes (ticks_at bytes q)) s further (let b : ticks_to bytes (ticks_at bytes q) ≤ length bytes = t.within in omega arith) (let b : q ≤ ticks_at bytes q = o.from in omega arith)

        o2 : Spans bytes (λ c. not (c == 96)) (ticks_to bytes (ticks_at bytes q)) (ticks_at bytes (ticks_to bytes (ticks_at bytes q)))
        o2 = others_span bytes (ticks_to bytes (ticks_at bytes q)) t.within (omega arith)

        next : (m : ℕ) → length bytes ≤ ticks_at bytes (ticks_to bytes (ticks_at bytes q)) + m → Found bytes count (value_at (noted (ticks_at bytes q) (ticks_to bytes (ticks_at bytes q)) s).last count) (value_at (iterated (run_noted bytes) f (noted (ticks_at bytes q) (ticks_to bytes (ticks_at bytes q)) s)).last count) (iterated (next_run bytes count) m (ticks_at bytes (ticks_to bytes (ticks_at bytes q)))) (ticks_at bytes (ticks_to bytes (ticks_at bytes q))) (ticks_to bytes (ticks_at bytes q))
        next m m_fits = later m (ticks_to bytes (ticks_at bytes q)) (noted (ticks_at bytes q) (ticks_to bytes (ticks_at bytes q)) s) (noted_place (ticks_at bytes q) (ticks_to bytes (ticks_at bytes q)) s) t.within (let b : q ≤ ticks_at bytes q = o.from in omega (arith, further)) m_fits small

        so : (z : Bool) → (ticks_to bytes (ticks_at bytes q) - ticks_at bytes q == count) ≡ z → Found bytes count (value_at s.last count) (value_at (iterated (run_noted bytes) f (noted (ticks_at bytes q) (ticks_to bytes (ticks_at bytes q)) s)).last count) (iterated (next_run bytes count) (suc h) (ticks_at bytes q)) (ticks_at bytes q) q
        so true x =
            let n = next (length bytes) (omega arith) in
            let v : value_at (noted (ticks_at bytes q) (ticks_to bytes (ticks_at bytes q)) s).last count ≡ plus (ticks_at bytes q) 1 = noted_same (ticks_at bytes q) (ticks_to bytes (ticks_at bytes q)) count s x (let b : ticks_to bytes (ticks_at bytes q) ≤ length bytes = t.within in omega arith) in
            let w = n.more in
            let b : q ≤ ticks_at bytes q = o.from in
            let c : ticks_to bytes (ticks_at bytes q) ≤ length bytes = t.within in
            let y : ticks_to bytes (ticks_at bytes q) - ticks_at bytes q ≡ count = eq_of (ticks_to bytes (ticks_at bytes q) - ticks_at bytes q) count x in
            subst (λ E. Found bytes count (value_at s.last count) (value_at (iterated (run_noted bytes) f (noted (ticks_at bytes q) (ticks_to bytes (ticks_at bytes q)) s)).last count) E (ticks_at bytes q) q) (sym (stopped bytes count (ticks_at bytes q) h x)) (record {
              some = λ i. omega (arith, v, w, further);
              long = λ i. omega (arith, y, further);
              lost = λ i. absurd (omega (arith, i, further));
              more = omega (arith, v, w, further);
              begun = omega arith;
              within = omega (arith, further);
            })
        so false x =
            let apart : (ticks_to bytes (ticks_at bytes q) == ticks_at bytes q) ≡ false = grind (arith, nat_tests, further) in
            let n = next h (let b : ticks_to bytes (ticks_at bytes q) ≤ ticks_at bytes (ticks_to bytes (ticks_at bytes q)) = o2.from in omega (arith, further)) in
            let v : value_at (noted (ticks_at bytes q) (ticks_to bytes (ticks_at bytes q)) s).last count ≡ value_at s.last count = noted_other (ticks_at bytes q) (ticks_to bytes (ticks_at bytes q)) count s x in
            let w = n.more in
            let b : q ≤ ticks_at bytes q = o.from in
            subst (λ E. Found bytes count (value_at s.last count) (value_at (iterated (run_noted bytes) f (noted (ticks_at bytes q) (ticks_to bytes (ticks_at bytes q)) s)).last count) E (ticks_at bytes q) q) (sym (went_on bytes count (ticks_at bytes q) h x apart)) (record {
              some = λ i. (let c = n.some i in omega (arith, c, further));
              long = n.long;
              lost = λ i. n.lost i ∙ v;
              more = omega (arith, v, w);
              begun = (let c = n.begun in let d = o2.from in omega (arith, c, d, further));
              within = n.within;
            })

-- a place at which a run of backticks ends
pub record RunEnd (bytes : List ℕ) (from : ℕ) : Type 0 where
  pub start : ℕ
  pub behind : start < from
  pub span : Spans bytes (λ c. c == 96) start from

-- what the search from such a place finds
pub record Looked (bytes : List ℕ) (count from V E : ℕ) : Type 0 where
  pub same : nat_lt from V ≡ nat_lt E (length bytes)
  pub long : E < length bytes → ticks_to bytes E ≡ E + count
  pub begun : from ≤ E
  pub within : E ≤ length bytes

looked_here : (bytes : List ℕ) (count from V last E a : ℕ) → from ≤ a → last ≤ from → Found bytes count last V E a from → Looked bytes count from V E
looked_here bytes count from V last E a l low n = record {
  same = by (nat_lt E (length bytes)) refl;
  long = n.long;
  begun = (let b : a ≤ E = n.begun in omega arith);
  within = n.within;
}
  where
    by : (z : Bool) → nat_lt E (length bytes) ≡ z → nat_lt from V ≡ z
    by true e = let b : from < V = n.some (grind (arith, nat_tests, e)) in grind (arith, nat_tests)
    by false e = let b : V ≡ last = n.lost (grind (arith, nat_tests, e)) in grind (arith, nat_tests, b)

-- the runs before such a place are noted first
looked_from : (bytes : List ℕ) (count from : ℕ) → length bytes + 2 < 2 ^ 64 → RunEnd bytes from → (f q : ℕ) (s : State) → s.place ≡ q → q ≤ from → length bytes ≤ q + f → value_at s.last count ≤ q → Looked bytes count from (value_at (iterated (run_noted bytes) f s).last count) (iterated (next_run bytes count) (length bytes) (ticks_at bytes from))
looked_from bytes count from fits r zero q s at l f_fits low = looked_here bytes count from _ (value_at s.last count) _ (ticks_at bytes from) o.from (omega arith)
    (found_from bytes count fits zero (length bytes) from s (at ∙ here) r.span.within (omega arith) (omega arith) (omega arith))
  where
    o : Spans bytes (λ c. not (c == 96)) from (ticks_at bytes from)
    o = others_span bytes from r.span.within (omega arith)

    here : q ≡ from
    here = let b : from ≤ length bytes = r.span.within in omega arith
looked_from bytes count from fits r (suc f) q s at l f_fits low = by (looked_from bytes count from fits r f) (nat_lt q from) refl
  where
    o : Spans bytes (λ c. not (c == 96)) from (ticks_at bytes from)
    o = others_span bytes from r.span.within (omega arith)

    Later : Type 0
    Later = (p : ℕ) (u : State) → u.place ≡ p → p ≤ from → length bytes ≤ p + f → value_at u.last count ≤ p → Looked bytes count from (value_at (iterated (run_noted bytes) f u).last count) (iterated (next_run bytes count) (length bytes) (ticks_at bytes from))

    by : Later → (z : Bool) → nat_lt q from ≡ z → Looked bytes count from (value_at (iterated (run_noted bytes) (suc f) s).last count) (iterated (next_run bytes count) (length bytes) (ticks_at bytes from))
    by later false x = looked_here bytes count from _ (value_at s.last count) _ (ticks_at bytes from) o.from (omega arith)
        (found_from bytes count fits (suc f) (length bytes) from s (at ∙ (let k : from ≤ q = grind (arith, nat_tests, x) in omega arith)) r.span.within (let k : from ≤ q = grind (arith, nat_tests, x) in omega arith) (omega arith) (let k : from ≤ q = grind (arith, nat_tests, x) in omega arith))
    by later true x = subst (λ V. Looked bytes count from V (iterated (next_run bytes count) (length bytes) (ticks_at bytes from))) (sym reached)
        (later (ticks_to bytes (ticks_at bytes q)) (noted (ticks_at bytes q) (ticks_to bytes (ticks_at bytes q)) s) (noted_place (ticks_at bytes q) (ticks_to bytes (ticks_at bytes q)) s) ends
        (let b : q ≤ ticks_at bytes q = oq.from in omega (arith, further))
        (value_noted bytes count (ticks_at bytes q) (ticks_to bytes (ticks_at bytes q)) s further (let b : ticks_to bytes (ticks_at bytes q) ≤ length bytes = t.within in omega arith) (let b : q ≤ ticks_at bytes q = oq.from in omega arith)))
      where
        before : q < from
        before = grind (arith, nat_tests, x)

        room : from ≤ length bytes
        room = r.span.within

        oq : Spans bytes (λ c. not (c == 96)) q (ticks_at bytes q)
        oq = others_span bytes q (omega (arith, room)) (omega arith)

        t : Spans bytes (λ c. c == 96) (ticks_at bytes q) (ticks_to bytes (ticks_at bytes q))
        t = ticks_span bytes (ticks_at bytes q) oq.within (omega arith)

        -- the byte before the place is a backtick
        tick : (byte_at bytes (from - 1) == 96) ≡ true
        tick = r.span.each (from - 1) (let b : r.start < from = r.behind in omega arith) (omega (arith, before))

        sooner : ticks_at bytes q < from
        sooner = near (nat_lt (ticks_at bytes q) from) refl
          where
            near : (z : Bool) → nat_lt (ticks_at bytes q) from ≡ z → ticks_at bytes q < from
            near true y = grind (arith, nat_tests, y)
            near false y = absurd (true≢false (sym tick ∙ is_not (byte_at bytes (from - 1) == 96) (oq.each (from - 1) (omega (arith, before)) (let k : from ≤ ticks_at bytes q = grind (arith, nat_tests, y) in omega (arith, before)))))

        further : ticks_at bytes q < ticks_to bytes (ticks_at bytes q)
        further = begins_run bytes q (omega (arith, room)) (omega arith) (omega (arith, sooner, room))

        ends : ticks_to bytes (ticks_at bytes q) ≤ from
        ends = near (nat_lt from (ticks_to bytes (ticks_at bytes q))) refl
          where
            near : (z : Bool) → nat_lt from (ticks_to bytes (ticks_at bytes q)) ≡ z → ticks_to bytes (ticks_at bytes q) ≤ from
            near true y = let k : from < ticks_to bytes (ticks_at bytes q) = grind (arith, nat_tests, y) in absurd (true≢false (sym (t.each from (omega (arith, sooner)) k) ∙ r.span.stop (let b : ticks_to bytes (ticks_at bytes q) ≤ length bytes = t.within in omega arith)))
            near false y = grind (arith, nat_tests, y)

        reached : value_at (iterated (run_noted bytes) (suc f) s).last count ≡ value_at (iterated (run_noted bytes) f (noted (ticks_at bytes q) (ticks_to bytes (ticks_at bytes q)) s)).last count
        reached = ap (λ (u : State). value_at u.last count) (noted_some bytes f s (noted (ticks_at bytes q) (ticks_to bytes (ticks_at bytes q)) s) (subst (λ n. run_noted bytes s ≡ Some (noted (ticks_at bytes n) (ticks_to bytes (ticks_at bytes n)) s)) at (runs_on bytes s (ap (λ n. ticks_at bytes n == ticks_to bytes (ticks_at bytes n)) at ∙ apart))))
          where
            apart : (ticks_at bytes q == ticks_to bytes (ticks_at bytes q)) ≡ false
            apart = grind (arith, nat_tests, further)

-- a run of as many backticks follows, just where the search for it ends before the end
pub looked : (bytes : List ℕ) (count from : ℕ) → length bytes + 2 < 2 ^ 64 → RunEnd bytes from → Looked bytes count from (value_at (last_ticks bytes) count) (iterated (next_run bytes count) (length bytes) (ticks_at bytes from))
unfolding last_ticks
looked bytes count from fits r = looked_from bytes count from fits r (length bytes) 0 ticks_start refl (omega arith) (omega arith) (omega arith)
