-- Code spans end after a run of as many backticks as they begin with.
use Rattle.std.proofs.Common.{◌≡◌, ℕ, zero, suc, ◌+◌, ◌-◌, ◌^◌, ◌<◌, ◌≤◌, ◌⊎◌, inl, inr, Bool, true, false, not, ◌==◌, ◌||◌, cond, nat_lt, if◌then◌else◌, List, [], ◌∷◌, ◌++◌, length, drop, replicate, refl, ap, sym, subst, ◌∙◌, arith, true≢false}
use Rattle.std.specs.Prelude.{take_while, slice_get, slice_set, unwrap_or, Option, Some, None}
use Rattle.std.specs.List.{list_any}
use Rattle.std.proofs.lemmas.Bool.Decides.{nat_tests}
use Rattle.std.proofs.lemmas.List.{length-drop}
use Rattle.std.proofs.lemmas.List.Sums.{take_while-cons}
use Rattle.tocmark_read_scan.specs.Basic.{plus, byte_at}
use Rattle.tocmark_read_scan.specs.Class.{is_in, run_length, run_end}
use Rattle.tocmark_read_scan.specs.Repeat.{going_on, iterated}
use Rattle.tocmark_read_scan.specs.declared.class.Class.{Class}
use Rattle.tocmark_read_scan.specs.declared.class.Class.TheVariants.{Only, Except}
use Rattle.tocmark_read_spans.specs.Tick.{State, padded, noted, run_from, noted_run, run_noted, ticks_start, last_ticks, next_run, tick_end}
use Rattle.tocmark_read_inlines.specs.Scan.{ticks_of}
use Rattle.tocmark_text_laws.proofs.LinkEnds.{Ended, ended_at}
use Rattle.tocmark_text_laws.proofs.Tokens.{got_dropped, run_within, run_climbs, run_has}
use Rattle.tocmark_text_laws.proofs.TokenEnds.{any_byte}

-- a run ends before a byte that isn't in its set

run_cons : (c : Class) (b : ℕ) (bs : List ℕ) → run_length c (b ∷ bs) ≡ length (cond (is_in c b) (b ∷ take_while (is_in c) bs) [])
run_cons c b bs = ap length (take_while-cons (is_in c) b bs)

run_next : (c : Class) (bs : List ℕ) → run_length c bs < length bs → is_in c (byte_at bs (run_length c bs)) ≡ false
run_next c [] l = absurd (omega arith)
run_next c (b ∷ bs) l = subst (λ n. is_in c (byte_at (b ∷ bs) n) ≡ false) (sym (run_cons c b bs)) (by (is_in c b) refl (subst (λ n. n < length (b ∷ bs)) (run_cons c b bs) l) (λ m. run_next c bs m))
  where
    by : (k : Bool) → is_in c b ≡ k → length (cond k (b ∷ take_while (is_in c) bs) []) < length (b ∷ bs) → (run_length c bs < length bs → is_in c (byte_at bs (run_length c bs)) ≡ false) → is_in c (byte_at (b ∷ bs) (length (cond k (b ∷ take_while (is_in c) bs) []))) ≡ false
    by true e m f = f (omega arith)
    by false e m f = e

run_stops : (t : List ℕ) (p : ℕ) (c : Class) → length t < 2 ^ 64 - 1 → run_end t p c < length t → is_in c (byte_at t (run_end t p c)) ≡ false
unfolding run_end
run_stops t p c short l =
    let n : run_length c (drop p t) < length (drop p t) = (let w : length (drop p t) ≡ length t - p = length-drop p t in omega arith) in
    let q : p + run_length c (drop p t) ≡ plus p (run_length c (drop p t)) = omega arith in
    subst (λ m. is_in c (byte_at t m) ≡ false) q (ap (λ o. is_in c (unwrap_or o 10)) (sym (got_dropped p t (run_length c (drop p t)))) ∙ run_next c (drop p t) n)

pub byte_past : (t : List ℕ) (p : ℕ) → length t ≤ p → byte_at t p ≡ 10
byte_past [] p l = refl
byte_past (b ∷ bs) zero l = absurd (omega arith)
byte_past (b ∷ bs) (suc p) l = byte_past bs p (omega arith)

-- a byte is a backtick
abbrev is_tick : List ℕ → ℕ → Bool
is_tick t p = byte_at t p == 96

abbrev ticks_to : List ℕ → ℕ → ℕ
ticks_to t p = run_end t p (Only 96)

abbrev ticks_at : List ℕ → ℕ → ℕ
ticks_at t p = run_end t p (Except 96)

ticks_are : (t : List ℕ) (p x : ℕ) → p ≤ x → x < ticks_to t p → is_tick t x ≡ true
unfolding is_in
ticks_are t p x l m = run_has t p (Only 96) x l m

others_are : (t : List ℕ) (p x : ℕ) → p ≤ x → x < ticks_at t p → is_tick t x ≡ false
unfolding is_in
others_are t p x l m = by (is_tick t x) (run_has t p (Except 96) x l m)
  where
    by : (k : Bool) → not k ≡ true → k ≡ false
    by true e = absurd cc
    by false e = refl

ticks_stop : (t : List ℕ) (p : ℕ) → length t < 2 ^ 64 - 1 → p ≤ length t → is_tick t (ticks_to t p) ≡ false
unfolding is_in
ticks_stop t p short l = by (nat_lt (ticks_to t p) (length t)) refl
  where
    by : (k : Bool) → nat_lt (ticks_to t p) (length t) ≡ k → is_tick t (ticks_to t p) ≡ false
    by true e = let w : ticks_to t p < length t = grind (arith, nat_tests) in run_stops t p (Only 96) short w
    by false e = let w : length t ≤ ticks_to t p = grind (arith, nat_tests) in ap (λ b. b == 96) (byte_past t (ticks_to t p) w)

others_stop : (t : List ℕ) (p : ℕ) → length t < 2 ^ 64 - 1 → ticks_at t p < length t → is_tick t (ticks_at t p) ≡ true
unfolding is_in
others_stop t p short l = by (is_tick t (ticks_at t p)) (run_stops t p (Except 96) short l)
  where
    by : (k : Bool) → not k ≡ false → k ≡ true
    by true e = refl
    by false e = absurd cc

-- a run of so many backticks begins at a place
record Run (t : List ℕ) (count start : ℕ) : Type 0 where
  inside : start < length t
  tick : is_tick t start ≡ true
  some : 0 < count
  long : ticks_to t start ≡ start + count
  begins : (x : ℕ) → suc x ≡ start → is_tick t x ≡ false

-- the number of a run
abbrev value_at : List ℕ → ℕ → ℕ
value_at last count = unwrap_or (slice_get last count) 0

abbrev IsKnown : List ℕ → ℕ → ℕ → Type 0
IsKnown t count v = (v ≡ 0) ⊎ ((start : ℕ) × (v ≡ suc start) × Run t count start)

zeros : (k j : ℕ) → value_at (replicate k 0) j ≡ 0
zeros zero j = refl
zeros (suc k) zero = refl
zeros (suc k) (suc j) = zeros k j

padded_value : (xs : List ℕ) (k j : ℕ) → value_at (xs ++ replicate k 0) j ≡ value_at xs j
padded_value [] k j = zeros k j
padded_value (x ∷ xs) k zero = refl
padded_value (x ∷ xs) k (suc j) = padded_value xs k j

set_value : (xs : List ℕ) (i v j : ℕ) → ((i ≡ j) × (value_at (slice_set xs i v) j ≡ v)) ⊎ (value_at (slice_set xs i v) j ≡ value_at xs j)
set_value [] i v j = inr refl
set_value (x ∷ xs) zero v zero = inl (refl, refl)
set_value (x ∷ xs) zero v (suc j) = inr refl
set_value (x ∷ xs) (suc i) v zero = inr refl
set_value (x ∷ xs) (suc i) v (suc j) = by (set_value xs i v j)
  where
    by : ((i ≡ j) × (value_at (slice_set xs i v) j ≡ v)) ⊎ (value_at (slice_set xs i v) j ≡ value_at xs j) → ((suc i ≡ suc j) × (value_at (slice_set xs i v) j ≡ v)) ⊎ (value_at (slice_set xs i v) j ≡ value_at xs j)
    by (inl (p, q)) = inl (ap suc p, q)
    by (inr q) = inr q

-- what is noted of the runs before a place
record Good (t : List ℕ) (s : State) : Type 0 where
  known : (count : ℕ) → IsKnown t count (value_at s.last count)
  within : s.place ≤ length t
  between : (s.place ≡ 0) ⊎ (is_tick t s.place ≡ false)

run_good : (t : List ℕ) (s : State) → length t < 2 ^ 64 - 1 → Good t s → ticks_at t s.place < ticks_to t (ticks_at t s.place) → Good t (noted (ticks_at t s.place) (ticks_to t (ticks_at t s.place)) s)
unfolding noted
run_good t s short g l = record {
  known = λ count. by count (set_value (padded (plus (end - start) 1) s.last) (end - start) (plus start 1) count);
  within = within;
  between = inr (ticks_stop t start short (omega (arith, l, within)));
}
  where
    start : ℕ
    start = ticks_at t s.place

    end : ℕ
    end = ticks_to t start

    front : start ≤ length t
    front = run_within t s.place (Except 96) g.within

    within : end ≤ length t
    within = run_within t start (Only 96) front

    later : s.place ≤ start
    later = let w : s.place ≤ length t = g.within in run_climbs t s.place (Except 96) (omega arith)

    tick : is_tick t start ≡ true
    tick = ticks_are t start start (omega arith) l

    begins : (x : ℕ) → suc x ≡ start → is_tick t x ≡ false
    begins x e = cases (nat_lt x s.place) refl
      where
        here : s.place ≡ start → (s.place ≡ 0) ⊎ (is_tick t s.place ≡ false) → is_tick t x ≡ false
        here q (inl z) = absurd (omega (arith, e, q, z))
        here q (inr z) = absurd (true≢false (sym tick ∙ ap (is_tick t) (sym q) ∙ z))

        cases : (k : Bool) → nat_lt x s.place ≡ k → is_tick t x ≡ false
        cases true w = let z : x < s.place = grind (arith, nat_tests) in here (omega (arith, e, later)) g.between
        cases false w = let z : s.place ≤ x = grind (arith, nat_tests) in others_are t s.place x z (omega (arith, e))

    run : Run t (end - start) start
    run = record { inside = omega (arith, l, within); tick = tick; some = omega (arith, l); long = omega (arith, l); begins = begins }

    by : (count : ℕ) → ((end - start ≡ count) × (value_at (slice_set (padded (plus (end - start) 1) s.last) (end - start) (plus start 1)) count ≡ plus start 1)) ⊎ (value_at (slice_set (padded (plus (end - start) 1) s.last) (end - start) (plus start 1)) count ≡ value_at (padded (plus (end - start) 1) s.last) count)
        → IsKnown t count (value_at (slice_set (padded (plus (end - start) 1) s.last) (end - start) (plus start 1)) count)
    by count (inl (p, q)) = inr (start, q ∙ (let z : plus start 1 ≡ suc start = omega (arith, l, within) in z), subst (λ n. Run t n start) p run)
    by count (inr q) = subst (IsKnown t count) (sym (q ∙ padded_value s.last (plus (end - start) 1 - length s.last) count)) (g.known count)

runs_good : (t : List ℕ) (fuel : ℕ) (s : State) → length t < 2 ^ 64 - 1 → Good t s → Good t (iterated (run_noted t) fuel s)
unfolding iterated run_from
runs_good t zero s short g = g
runs_good t (suc fuel) s short g = by (start == end) refl (λ u h. runs_good t fuel u short h)
  where
    start : ℕ
    start = ticks_at t s.place

    end : ℕ
    end = ticks_to t start

    front : start ≤ length t
    front = run_within t s.place (Except 96) g.within

    climbs : start ≤ end
    climbs = run_climbs t start (Only 96) (omega (arith, front))

    by : (k : Bool) → (start == end) ≡ k → ((u : State) → Good t u → Good t (iterated (run_noted t) fuel u)) → Good t (going_on (λ d. iterated (run_noted t) fuel d) s (noted_run s (if k then None else Some (start, end))))
    by true e f = g
    by false e f = let l : start < end = grind (arith, nat_tests, climbs) in f (noted start end s) (run_good t s short g l)

last_known : (t : List ℕ) (count : ℕ) → length t < 2 ^ 64 - 1 → IsKnown t count (value_at (last_ticks t) count)
unfolding last_ticks
last_known t count short = (runs_good t (length t) ticks_start short (record { known = λ n. inl refl; within = omega arith; between = inl refl })).known count

-- the search for a run of so many backticks ends at one, if one follows
record Sought (t : List ℕ) (count start from to : ℕ) : Type 0 where
  after : from ≤ to
  before : to ≤ start
  long : ticks_to t to ≡ to + count

sought : (t : List ℕ) (count start fuel p : ℕ) → length t < 2 ^ 64 - 1 → Run t count start → p ≤ start → start ≤ p + fuel → is_tick t p ≡ true → Sought t count start p (iterated (next_run t count) fuel p)
unfolding iterated next_run
sought t count start zero p short r l m e = let q : start ≡ p = omega arith in record { after = omega arith; before = l; long = subst (λ n. ticks_to t n ≡ n + count) q r.long }
sought t count start (suc fuel) p short r l m e = by (end - p == count) (end == p) refl refl (λ n a b c. sought t count start fuel n short r a b c)
  where
    end : ℕ
    end = ticks_to t p

    next : ℕ
    next = ticks_at t end

    inside : start < length t
    inside = r.inside

    climbs : p ≤ end
    climbs = run_climbs t p (Only 96) (omega (arith, inside))

    within : end ≤ length t
    within = run_within t p (Only 96) (omega (arith, inside))

    further : end ≤ next
    further = run_climbs t end (Except 96) (omega (arith, within))

    stands : is_tick t end ≡ false
    stands = ticks_stop t p short (omega (arith, inside))

    -- the run that is known isn't in this one
    behind : (end - p == count) ≡ false → end ≤ start
    behind f = cases (nat_lt start end) (nat_lt p start) refl refl
      where
        cases : (x y : Bool) → nat_lt start end ≡ x → nat_lt p start ≡ y → end ≤ start
        cases false y g h = grind (arith, nat_tests)
        cases true true g h =
            let a : start < end = grind (arith, nat_tests) in
            let b : p < start = grind (arith, nat_tests) in
            absurd (true≢false (sym (ticks_are t p (start - 1) (omega arith) (omega arith)) ∙ r.begins (start - 1) (omega arith)))
        cases true false g h =
            let b : start ≤ p = grind (arith, nat_tests) in
            let q : start ≡ p = omega arith in
            let w : end ≡ p + count = subst (λ n. ticks_to t n ≡ n + count) q r.long in
            let z : end - p ≡ count = omega arith in
            absurd (true≢false (let y : (end - p == count) ≡ true = grind (arith, nat_tests) in sym y ∙ f))

    onward : end ≤ start → next ≤ start
    onward a = cases (nat_lt start next) refl
      where
        cases : (x : Bool) → nat_lt start next ≡ x → next ≤ start
        cases true g = let b : start < next = grind (arith, nat_tests) in absurd (true≢false (sym r.tick ∙ others_are t end start a b))
        cases false g = grind (arith, nat_tests)

    by : (x y : Bool) → (end - p == count) ≡ x → (end == p) ≡ y → ((n : ℕ) → n ≤ start → start ≤ n + fuel → is_tick t n ≡ true → Sought t count start n (iterated (next_run t count) fuel n)) → Sought t count start p (going_on (λ d. iterated (next_run t count) fuel d) p (if x || y then None else Some next))
    by true y f g h = let z : end - p ≡ count = grind (arith, nat_tests) in record { after = omega arith; before = l; long = omega (arith, climbs) }
    by false true f g h = let z : end ≡ p = grind (arith, nat_tests) in absurd (true≢false (sym e ∙ ap (is_tick t) (sym z) ∙ stands))
    by false false f g h =
        let a : end ≤ start = behind f in
        let b : next ≤ start = onward a in
        let z : p < end = grind (arith, nat_tests, climbs) in
        let s : Sought t count start next (iterated (next_run t count) fuel next) = h next b (omega (arith, further)) (others_stop t end short (omega (arith, inside))) in
        record { after = (let w : next ≤ iterated (next_run t count) fuel next = s.after in omega (arith, further, climbs)); before = s.before; long = s.long }

-- where a code span ends
abbrev pub CodeEnds : List ℕ → ℕ → ℕ → Option ℕ → Type 0
CodeEnds t p count None = Unit
CodeEnds t p count (Some to) = Ended t p (plus to count)

pub code_ends : (t : List ℕ) (p from count : ℕ) → length t < 2 ^ 64 - 1 → p ≤ from → CodeEnds t p count (tick_end t from count (last_ticks t))
unfolding tick_end
code_ends t p from count short l = by (nat_lt from (value_at (last_ticks t) count)) refl
  where
    begun : ℕ
    begun = ticks_at t from

    to : ℕ
    to = iterated (next_run t count) (length t) begun

    ends : (start : ℕ) → Run t count start → from ≤ start → Ended t p (plus to count)
    ends start r a =
        let inside : start < length t = r.inside in
        let climbs : from ≤ begun = run_climbs t from (Except 96) (omega arith) in
        let near : begun ≤ start = onward (nat_lt start begun) refl in
        let s : Sought t count start begun to = sought t count start (length t) begun short r near (omega arith) (others_stop t from short (omega arith)) in
        let b : begun ≤ to = s.after in
        let c : to ≤ start = s.before in
        let d : 0 < count = r.some in
        let e : ticks_to t to ≡ to + count = s.long in
        let k : is_tick t (to + count - 1) ≡ true = ticks_are t to (to + count - 1) (omega arith) (omega arith) in
        let m : byte_at t (to + count - 1) ≡ 96 = grind (arith, nat_tests) in
        let w : ticks_to t to ≤ length t = run_within t to (Only 96) (omega arith) in
        let q : plus (to + count - 1) 1 ≡ plus to count = omega arith in
        subst (Ended t p) q (ended_at t p (to + count - 1) 96 short m refl (omega arith) (omega arith))
      where
        onward : (x : Bool) → nat_lt start begun ≡ x → begun ≤ start
        onward true g = let b : start < begun = grind (arith, nat_tests) in absurd (true≢false (sym r.tick ∙ others_are t from start a b))
        onward false g = grind (arith, nat_tests)

    known : IsKnown t count (value_at (last_ticks t) count) → from < value_at (last_ticks t) count → Ended t p (plus to count)
    known (inl z) w = absurd (omega arith)
    known (inr (start, z, r)) w = ends start r (omega arith)

    by : (x : Bool) → nat_lt from (value_at (last_ticks t) count) ≡ x → CodeEnds t p count (if x then Some to else None)
    by true e = let w : from < value_at (last_ticks t) count = grind (arith, nat_tests) in known (last_known t count short) w
    by false e = tt

-- where a backtick is, the runs are known
pub ticks_known : (t : List ℕ) (p : ℕ) → p < length t → byte_at t p ≡ 96 → last_ticks t ≡ ticks_of t
unfolding ticks_of
ticks_known t p w e = by (list_any (λ x. x == 96) t) (any_byte 96 t p w e)
  where
    by : (x : Bool) → x ≡ true → last_ticks t ≡ (if x then last_ticks t else [])
    by true q = refl
    by false q = absurd (true≢false (sym q))
