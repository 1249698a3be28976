-- The reader's stack of opening runs: which of them a closing run fits, and where its search need not look.
use Rattle.std.proofs.Common.{◌≡◌, ℕ, zero, suc, ◌+◌, ◌^◌, ◌<◌, ◌≤◌, ◌%◌, Bool, true, false, not, ◌==◌, ◌&&◌, ◌||◌, nat_lt, if◌then◌else◌, List, [], ◌∷◌, ◌++◌, length, replicate, refl, ap, sym, subst, ◌∙◌, arith, length-append, true≢false}
use Rattle.std.proofs.lemmas.Bool.Decides.{nat_tests}
use Rattle.std.specs.Prelude.{Option, Some, None, slice_get, slice_set, unwrap_or}
use Rattle.std.specs.List.{AllByRecursion}
use Rattle.tocmark_read_scan.specs.Basic.{plus}
use Rattle.tocmark_read_scan.proofs.PlainTests.{eq_of, turned}
use Rattle.tocmark_read_spans.specs.Emphasis as reader
use Rattle.tocmark_read_spans.specs.declared.run.Run.{Run}
use Rattle.tocmark_commonmark.specs.Emphasis.{can_match}

-- `*` or `_`
abbrev pub is_star : ℕ → Bool
is_star b = (b == 42) || (b == 95)

-- what holds of all of a list holds of its parts
pub all_first : {A : Type 0} (P : A → Type 0) (xs ys : List A) → AllByRecursion P (xs ++ ys) → AllByRecursion P xs
all_first P [] ys h = tt
all_first P (x ∷ xs) ys h = (h.0, all_first P xs ys (h.1))

pub all_second : {A : Type 0} (P : A → Type 0) (xs ys : List A) → AllByRecursion P (xs ++ ys) → AllByRecursion P ys
all_second P [] ys h = h
all_second P (x ∷ xs) ys h = all_second P xs ys (h.1)

pub all_both : {A : Type 0} (P : A → Type 0) (xs ys : List A) → AllByRecursion P xs → AllByRecursion P ys → AllByRecursion P (xs ++ ys)
all_both P [] ys h k = k
all_both P (x ∷ xs) ys h k = (h.0, all_both P xs ys (h.1) k)

pub all_map : {A : Type 0} (P Q : A → Type 0) (xs : List A) → ((x : A) → P x → Q x) → AllByRecursion P xs → AllByRecursion Q xs
all_map P Q [] f h = tt
all_map P Q (x ∷ xs) f h = (f x (h.0), all_map P Q xs f (h.1))

-- the reader's test is the declaration's
pub fits_so : (o c : Run) → o.opens ≡ true → is_star c.byte ≡ true → o.length + c.length < 2 ^ 64 → reader.fits o c ≡ can_match o c
unfolding reader.fits reader.emphasis_fits
fits_so o c opens star light =
    ap (λ (z : Bool). if z then (o.byte == 126) && (o.length == c.length) else rule (plus o.length c.length)) (turned is_star 126 c.byte star refl)
    ∙ ap rule (let k : plus o.length c.length ≡ o.length + c.length = omega arith in k)
    ∙ sym (ap (λ (z : Bool). z && (o.byte == c.byte) && not ((o.closes || c.opens) && ((o.length + c.length) % 3 == 0) && not ((o.length % 3 == 0) && (c.length % 3 == 0)))) opens)
  where
    rule : ℕ → Bool
    rule n = (o.byte == c.byte) && not ((o.closes || c.opens) && (n % 3 == 0) && not ((o.length % 3 == 0) && (c.length % 3 == 0)))

-- a closing run's class tells its byte, whether it opens, and its length modulo 3
code : Bool → Bool → ℕ → ℕ
code x y n = (if x then 0 else 6) + (if y then 0 else 3) + n

code_apart : (x y u v : Bool) (n m : ℕ) → n < 3 → m < 3 → code x y n ≡ code u v m → (x ≡ u) × (y ≡ v) × (n ≡ m)
unfolding code
code_apart true true true true n m h k e = (refl, refl, omega arith)
code_apart true true true false n m h k e = absurd (omega arith)
code_apart true true false true n m h k e = absurd (omega arith)
code_apart true true false false n m h k e = absurd (omega arith)
code_apart true false true true n m h k e = absurd (omega arith)
code_apart true false true false n m h k e = (refl, refl, omega arith)
code_apart true false false true n m h k e = absurd (omega arith)
code_apart true false false false n m h k e = absurd (omega arith)
code_apart false true true true n m h k e = absurd (omega arith)
code_apart false true true false n m h k e = absurd (omega arith)
code_apart false true false true n m h k e = (refl, refl, omega arith)
code_apart false true false false n m h k e = absurd (omega arith)
code_apart false false true true n m h k e = absurd (omega arith)
code_apart false false true false n m h k e = absurd (omega arith)
code_apart false false false true n m h k e = absurd (omega arith)
code_apart false false false false n m h k e = (refl, refl, omega arith)

class_is : (c : Run) → is_star c.byte ≡ true → reader.class_of c ≡ code (c.byte == 42) c.opens (c.length % 3)
unfolding reader.class_of reader.is_tilde_or_caret code
class_is c star =
    ap (λ (z : Bool). if z || (c.byte == 94) then 12 else (if c.byte == 42 then 0 else 6) + (if c.opens then 0 else 3) + c.length % 3) (turned is_star 126 c.byte star refl)
    ∙ ap (λ (z : Bool). if z then 12 else (if c.byte == 42 then 0 else 6) + (if c.opens then 0 else 3) + c.length % 3) (turned is_star 94 c.byte star refl)

star_same : (b d : ℕ) → is_star b ≡ true → is_star d ≡ true → (b == 42) ≡ (d == 42) → b ≡ d
star_same b d h k e = by (b == 42) (d == 42) refl refl h k e
  where
    by : (x y : Bool) → (b == 42) ≡ x → (d == 42) ≡ y → (x || (b == 95)) ≡ true → (y || (d == 95)) ≡ true → x ≡ y → b ≡ d
    by true true p q h k e = eq_of b 42 p ∙ sym (eq_of d 42 q)
    by true false p q h k e = absurd (true≢false e)
    by false true p q h k e = absurd (true≢false (sym e))
    by false false p q h k e = eq_of b 95 h ∙ sym (eq_of d 95 k)

threes : (a n m : ℕ) → n % 3 ≡ m % 3 → (a + n) % 3 ≡ (a + m) % 3
threes a n m h = omega arith

-- closing runs of one class fit the same runs
pub same_class : (c d : Run) → is_star c.byte ≡ true → is_star d.byte ≡ true → reader.class_of c ≡ reader.class_of d → (o : Run) → can_match o c ≡ can_match o d
same_class c d star also same o =
    ap (λ b. match b c.opens ((o.length + c.length) % 3) (c.length % 3)) (star_same c.byte d.byte star also (parts.0))
    ∙ ap (λ (y : Bool). match d.byte y ((o.length + c.length) % 3) (c.length % 3)) (parts.1)
    ∙ ap (λ n. match d.byte d.opens n (c.length % 3)) (threes o.length c.length d.length (parts.2))
    ∙ ap (λ n. match d.byte d.opens ((o.length + d.length) % 3) n) (parts.2)
  where
    match : ℕ → Bool → ℕ → ℕ → Bool
    match b y n m = o.opens && (o.byte == b) && not ((o.closes || y) && (n == 0) && not ((o.length % 3 == 0) && (m == 0)))

    parts : ((c.byte == 42) ≡ (d.byte == 42)) × (c.opens ≡ d.opens) × (c.length % 3 ≡ d.length % 3)
    parts = code_apart (c.byte == 42) c.opens (d.byte == 42) d.opens (c.length % 3) (d.length % 3) (omega arith) (omega arith) (sym (class_is c star) ∙ same ∙ class_is d also)

-- where the search of a class ends
abbrev pub bottom : List ℕ → ℕ → ℕ
bottom bs k = unwrap_or (slice_get bs k) 0

bottom_same : (bs : List ℕ) (k j v : ℕ) → (j == k) ≡ false → bottom (slice_set bs k v) j ≡ bottom bs j
bottom_same [] k j v h = refl
bottom_same (b ∷ bs) zero zero v h = absurd (true≢false h)
bottom_same (b ∷ bs) zero (suc j) v h = refl
bottom_same (b ∷ bs) (suc k) zero v h = refl
bottom_same (b ∷ bs) (suc k) (suc j) v h = bottom_same bs k j v (let ne : j ≡ k → ⊥ = λ e. true≢false (sym (let same : (suc j == suc k) ≡ true = grind (arith, nat_tests) in same) ∙ h) in let r : (j == k) ≡ false = grind (arith, nat_tests) in r)

pub bottom_low : (bs : List ℕ) (p v k : ℕ) → ((j : ℕ) → bottom bs j ≤ p) → v ≤ p → (j : ℕ) → bottom (slice_set bs k v) j ≤ p
bottom_low [] p v k h l j = h j
bottom_low (b ∷ bs) p v zero h l zero = l
bottom_low (b ∷ bs) p v zero h l (suc j) = h (suc j)
bottom_low (b ∷ bs) p v (suc k) h l zero = h 0
bottom_low (b ∷ bs) p v (suc k) h l (suc j) = bottom_low bs p v k (λ i. h (suc i)) l j

pub bottom_zero : (n j : ℕ) → bottom (replicate n 0) j ≡ 0
bottom_zero zero j = refl
bottom_zero (suc n) zero = refl
bottom_zero (suc n) (suc j) = bottom_zero n j

-- no run before the end of a search could be matched
abbrev pub Bars : List ℕ → List Run → Type 0
Bars bs stack = (c : Run) → is_star c.byte ≡ true → AllByRecursion (λ o. can_match o c ≡ true → bottom bs (reader.class_of c) ≤ o.place) stack

-- also if no run could be matched
pub bars_set : (bs : List ℕ) (stack : List Run) (c : Run) (v : ℕ) → is_star c.byte ≡ true → AllByRecursion (λ o. can_match o c ≡ false) stack → Bars bs stack → Bars (slice_set bs (reader.class_of c) v) stack
bars_set bs stack c v star none h d also = by (reader.class_of d == reader.class_of c) refl
  where
    by : (z : Bool) → (reader.class_of d == reader.class_of c) ≡ z → AllByRecursion (λ o. can_match o d ≡ true → bottom (slice_set bs (reader.class_of c) v) (reader.class_of d) ≤ o.place) stack
    by true e = all_map (λ o. can_match o c ≡ false) (λ o. can_match o d ≡ true → bottom (slice_set bs (reader.class_of c) v) (reader.class_of d) ≤ o.place) stack
        (λ o no yes. absurd (true≢false (sym yes ∙ same_class d c also star (eq_of (reader.class_of d) (reader.class_of c) e) o ∙ no)))
        none
    by false e = all_map (λ o. can_match o d ≡ true → bottom bs (reader.class_of d) ≤ o.place) (λ o. can_match o d ≡ true → bottom (slice_set bs (reader.class_of c) v) (reader.class_of d) ≤ o.place) stack
        (λ o low yes. subst (λ n. n ≤ o.place) (sym (bottom_same bs (reader.class_of c) (reader.class_of d) v e)) (low yes))
        (h d also)

-- the run at a place of a list
pub get_here : {A : Type 0} (xs ys : List A) (x : A) → slice_get (xs ++ x ∷ ys) (length xs) ≡ Some x
get_here [] ys x = refl
get_here (w ∷ xs) ys x = get_here xs ys x

get_after : {A : Type 0} (xs ys : List A) (n : ℕ) → slice_get (xs ++ ys) (length xs + n) ≡ slice_get ys n
get_after [] ys n = ap (slice_get ys) (let k : 0 + n ≡ n = omega arith in k)
get_after (x ∷ xs) ys n = ap (slice_get (x ∷ (xs ++ ys))) (let k : suc (length xs) + n ≡ suc (length xs + n) = omega arith in k) ∙ get_after xs ys n

record There (P : Run → Type 0) (xs : List Run) (n : ℕ) : Type 0 where
  run : Run
  is : slice_get xs n ≡ Some run
  holds : P run

there : (P : Run → Type 0) (xs : List Run) (n : ℕ) → AllByRecursion P xs → n < length xs → There P xs n
there P [] n h l = absurd (omega arith)
there P (x ∷ xs) zero h l = record { run = x; is = refl; holds = h.0 }
there P (x ∷ xs) (suc n) h l = let t : There P xs n = there P xs n (h.1) (omega arith) in record { run = t.run; is = t.is; holds = t.holds }

-- runs above a place that a closing run doesn't fit
abbrev pub Missed : Run → ℕ → List Run → Type 0
Missed c q runs = AllByRecursion (λ o. (q ≤ o.place) × (reader.fits o c ≡ false) × (can_match o c ≡ false)) runs

pub none_found : (c : Run) (q bottom : ℕ) (stack : List Run) → Missed c q stack → (n : ℕ) → n ≤ length stack → reader.found stack c bottom n ≡ None
none_found c q bottom stack h zero l = refl
none_found c q bottom stack h (suc n) l = by (none_found c q bottom stack h n (omega arith)) (there (λ o. (q ≤ o.place) × (reader.fits o c ≡ false) × (can_match o c ≡ false)) stack n h (omega arith))
  where
    of : reader.found stack c bottom n ≡ None → (z : Bool) → (if z then None else reader.found stack c bottom n) ≡ None
    of later true = refl
    of later false = later

    by : reader.found stack c bottom n ≡ None → There (λ o. (q ≤ o.place) × (reader.fits o c ≡ false) × (can_match o c ≡ false)) stack n → reader.found_at (slice_get stack n) c bottom n (reader.found stack c bottom n) ≡ None
    by later t =
        ap (λ (o : Option Run). reader.found_at o c bottom n (reader.found stack c bottom n)) t.is
        ∙ ap (λ (z : Bool). if nat_lt t.run.place bottom then None else (if z then Some n else reader.found stack c bottom n)) (t.holds.1)
        ∙ of later (nat_lt t.run.place bottom)

-- the topmost run that fits is found, if the search reaches it
pub found_top : (c : Run) (bottom : ℕ) (under upper : List Run) (o : Run) → reader.fits o c ≡ true → bottom ≤ o.place → Missed c o.place upper → reader.found (under ++ o ∷ upper) c bottom (length (under ++ o ∷ upper)) ≡ Some (length under)
found_top c bottom under upper o fits low h =
    ap (reader.found (under ++ o ∷ upper) c bottom) (length-append under (o ∷ upper) ∙ (let k : length under + suc (length upper) ≡ suc (length under + length upper) = omega arith in k))
    ∙ down (length upper) (omega arith)
  where
    reached : (p : ℕ) → o.place ≤ p → nat_lt p bottom ≡ false
    reached p l = grind (arith, nat_tests)

    down : (m : ℕ) → m ≤ length upper → reader.found (under ++ o ∷ upper) c bottom (suc (length under + m)) ≡ Some (length under)
    down zero l =
        ap (λ (n : ℕ). reader.found (under ++ o ∷ upper) c bottom (suc n)) (let k : length under + 0 ≡ length under = omega arith in k)
        ∙ ap (λ (x : Option Run). reader.found_at x c bottom (length under) (reader.found (under ++ o ∷ upper) c bottom (length under))) (get_here under upper o)
        ∙ ap (λ (z : Bool). if z then None else (if reader.fits o c then Some (length under) else reader.found (under ++ o ∷ upper) c bottom (length under))) (reached o.place (omega arith))
        ∙ ap (λ (z : Bool). if z then Some (length under) else reader.found (under ++ o ∷ upper) c bottom (length under)) fits
    down (suc m) l = by (down m (omega arith)) (there (λ x. (o.place ≤ x.place) × (reader.fits x c ≡ false) × (can_match x c ≡ false)) upper m h (omega arith))
      where
        next : length under + suc m ≡ suc (length under + m)
        next = omega arith

        by : reader.found (under ++ o ∷ upper) c bottom (suc (length under + m)) ≡ Some (length under) → There (λ x. (o.place ≤ x.place) × (reader.fits x c ≡ false) × (can_match x c ≡ false)) upper m → reader.found (under ++ o ∷ upper) c bottom (suc (length under + suc m)) ≡ Some (length under)
        by later t =
            ap (λ (x : Option Run). reader.found_at x c bottom (length under + suc m) (reader.found (under ++ o ∷ upper) c bottom (length under + suc m))) (get_after under (o ∷ upper) (suc m) ∙ t.is)
            ∙ ap (λ (z : Bool). if z then None else (if reader.fits t.run c then Some (length under + suc m) else reader.found (under ++ o ∷ upper) c bottom (length under + suc m))) (reached t.run.place (t.holds.0))
            ∙ ap (λ (z : Bool). if z then Some (length under + suc m) else reader.found (under ++ o ∷ upper) c bottom (length under + suc m)) (t.holds.1)
            ∙ ap (reader.found (under ++ o ∷ upper) c bottom) next
            ∙ later
