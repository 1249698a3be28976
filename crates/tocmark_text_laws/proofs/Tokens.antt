-- Where tokens of a leaf's text end, and which bytes they have.
use Rattle.std.proofs.Common.{◌≡◌, ℕ, zero, suc, ◌+◌, ◌-◌, ◌^◌, ◌<◌, ◌≤◌, not, ◌==◌, ◌&&◌, Bool, true, false, cond, if◌then◌else◌, nat_lt, List, [], ◌∷◌, length, take, drop, codes, refl, ap, sym, ◌∙◌, subst, arith, true≢false}
use Rattle.std.specs.Prelude.{nat_eq, take_while, slice_get, unwrap_or, Option, Some, None}
use Rattle.std.specs.Cmp.Lexicographic.{pointwise}
use Rattle.std.proofs.lemmas.Bool.Decides.{nat_tests}
use Rattle.std.proofs.lemmas.List.Sums.{take_while-cons}
use Rattle.tocmark_read_scan.specs.Basic.{plus, byte_at, bytes_between, starts_at}
use Rattle.tocmark_read_scan.specs.Class.{is_in, run_length, run_end}
use Rattle.tocmark_read_scan.specs.Repeat.{going_on, iterated}
use Rattle.tocmark_read_scan.specs.declared.class.Class.{Class}
use Rattle.tocmark_read_scan.specs.declared.class.Class.TheVariants as class
use Rattle.tocmark_read_tokens.specs.Autolink.{closed_at, is_scheme, uri_end, is_domain, domain_end, mail_end}
use Rattle.tocmark_read_inlines.specs.Scan.{before_space}

-- a byte of a text that is no line feed is within it
pub byte_within : (t : List ℕ) (x b : ℕ) → byte_at t x ≡ b → (b == 10) ≡ false → x < length t
byte_within [] x b e n = absurd (true≢false (ap (λ c. c == 10) e ∙ n))
byte_within (c ∷ cs) zero b e n = omega arith
byte_within (c ∷ cs) (suc x) b e n = let l : x < length cs = byte_within cs x b e n in omega arith

pub got_dropped : (p : ℕ) (t : List ℕ) (x : ℕ) → slice_get (drop p t) x ≡ slice_get t (p + x)
got_dropped zero t x = let q : x ≡ 0 + x = omega arith in ap (slice_get t) q
got_dropped (suc p) [] x = refl
got_dropped (suc p) (c ∷ cs) x = got_dropped p cs x ∙ (let q : suc (p + x) ≡ suc p + x = omega arith in ap (slice_get (c ∷ cs)) q)

-- the members of a set at the front of a list
run_members : (c : Class) (bs : List ℕ) (x : ℕ) → x < run_length c bs → is_in c (byte_at bs x) ≡ true
run_members c [] x l = absurd (omega arith)
run_members c (b ∷ bs) zero l = by (is_in c b) refl (subst (λ (ys : List ℕ). 0 < length ys) (take_while-cons (is_in c) b bs) l)
  where
    by : (k : Bool) → is_in c b ≡ k → 0 < length (cond k (b ∷ take_while (is_in c) bs) []) → is_in c b ≡ true
    by true e m = e
    by false e m = absurd (omega arith)
run_members c (b ∷ bs) (suc x) l = by (is_in c b) (subst (λ (ys : List ℕ). suc x < length ys) (take_while-cons (is_in c) b bs) l) (λ m. run_members c bs x m)
  where
    by : (k : Bool) → suc x < length (cond k (b ∷ take_while (is_in c) bs) []) → (x < run_length c bs → is_in c (byte_at bs x) ≡ true) → is_in c (byte_at bs x) ≡ true
    by true m f = f (omega arith)
    by false m f = absurd (omega arith)

run_short : (c : Class) (bs : List ℕ) → run_length c bs ≤ length bs
run_short c [] = omega arith
run_short c (b ∷ bs) = subst (λ (ys : List ℕ). length ys ≤ length (b ∷ bs)) (sym (take_while-cons (is_in c) b bs)) (by (is_in c b) (run_short c bs))
  where
    by : (k : Bool) → run_length c bs ≤ length bs → length (cond k (b ∷ take_while (is_in c) bs) []) ≤ length (b ∷ bs)
    by true m = omega arith
    by false m = omega arith

dropped_short : (p : ℕ) (t : List ℕ) → length (drop p t) ≤ length t - p
dropped_short zero t = omega arith
dropped_short (suc p) [] = omega arith
dropped_short (suc p) (c ∷ cs) = let l : length (drop p cs) ≤ length cs - p = dropped_short p cs in omega arith

-- a run ends within the text, and all of its bytes are members of the set
pub run_within : (t : List ℕ) (p : ℕ) (c : Class) → p ≤ length t → run_end t p c ≤ length t
unfolding run_end
run_within t p c l = let a : run_length c (drop p t) ≤ length (drop p t) = run_short c (drop p t) in let b : length (drop p t) ≤ length t - p = dropped_short p t in omega arith

pub run_climbs : (t : List ℕ) (p : ℕ) (c : Class) → p ≤ 2 ^ 64 - 1 → p ≤ run_end t p c
unfolding run_end
run_climbs t p c l = omega arith

pub run_few : (t : List ℕ) (p : ℕ) (c : Class) → run_end t p c ≤ 2 ^ 64 - 1
unfolding run_end
run_few t p c = omega arith

pub run_has : (t : List ℕ) (p : ℕ) (c : Class) (x : ℕ) → p ≤ x → x < run_end t p c → is_in c (byte_at t x) ≡ true
unfolding run_end
run_has t p c x l m = ap (λ o. is_in c (unwrap_or o 10)) (sym (got_dropped p t (x - p) ∙ (let q : p + (x - p) ≡ x = omega arith in ap (slice_get t) q))) ∙ run_members c (drop p t) (x - p) (omega arith)

-- an address ends after its closing bracket
abbrev pub Closed : List ℕ → ℕ → Option ℕ → Type 0
Closed t p None = Unit
Closed t p (Some end) = (p < end - 1) × (byte_at t (end - 1) ≡ 62) × (end ≡ suc (end - 1))

closed_so : (t : List ℕ) (p x : ℕ) → length t < 2 ^ 64 - 1 → p < x → Closed t p (closed_at t x)
unfolding closed_at
closed_so t p x short l = by (byte_at t x == 62) refl
  where
    by : (k : Bool) → (byte_at t x == 62) ≡ k → Closed t p (if k then Some (plus x 1) else None)
    by true e = let b : byte_at t x ≡ 62 = grind (arith, nat_tests) in let w : x < length t = byte_within t x 62 b refl in let q : plus x 1 - 1 ≡ x = omega arith in (omega arith, ap (byte_at t) q ∙ b, omega arith)
    by false e = tt

pub uri_closed : (t : List ℕ) (p : ℕ) → length t < 2 ^ 64 - 1 → p < length t → Closed t p (uri_end t p)
unfolding uri_end
uri_closed t p short l = by (is_scheme t start end)
  where
    start : ℕ
    start = plus p 1

    end : ℕ
    end = run_end t start class.Scheme

    last : ℕ
    last = run_end t end class.Address

    first : start ≤ end
    first = run_climbs t start class.Scheme (omega arith)

    second : end ≤ last
    second = run_climbs t end class.Address (run_few t start class.Scheme)

    by : (k : Bool) → Closed t p (if k then closed_at t last else None)
    by true = closed_so t p last short (omega (arith, first, second))
    by false = tt

pub mail_closed : (t : List ℕ) (p : ℕ) → length t < 2 ^ 64 - 1 → p < length t → Closed t p (mail_end t p)
unfolding mail_end domain_end
mail_closed t p short l = by (not (end == start) && (byte_at t end == 64)) (is_domain (bytes_between t (plus end 1) last))
  where
    start : ℕ
    start = plus p 1

    end : ℕ
    end = run_end t start class.Mailbox

    last : ℕ
    last = run_end t (plus end 1) class.Domain

    first : start ≤ end
    first = run_climbs t start class.Mailbox (omega arith)

    few : end ≤ 2 ^ 64 - 1
    few = run_few t start class.Mailbox

    second : plus end 1 ≤ last
    second = run_climbs t (plus end 1) class.Domain (omega arith)

    by : (k i : Bool) → Closed t p (if k then (if i then closed_at t last else None) else None)
    by true true = closed_so t p last short (omega (arith, first, second, few))
    by true false = tt
    by false i = tt

-- the bytes between the first of spaces before a place and it are spaces
abbrev pub Spaces : List ℕ → ℕ → ℕ → Type 0
Spaces t first p = (first ≤ p) × ((x : ℕ) → first ≤ x → x < p → byte_at t x ≡ 32)

pub spaces_before : (t : List ℕ) (n q p : ℕ) → Spaces t q p → Spaces t (iterated (before_space t) n q) p
unfolding iterated before_space
spaces_before t zero q p h = h
spaces_before t (suc n) q p h = by (nat_lt 0 q) (byte_at t (q - 1) == 32) refl refl (λ k. spaces_before t n (q - 1) p k)
  where
    nearer : 0 < q → byte_at t (q - 1) ≡ 32 → Spaces t (q - 1) p
    nearer z e = (let l : q ≤ p = h.0 in omega arith, λ x l m. either x l m (nat_lt x q) refl)
      where
        either : (x : ℕ) → q - 1 ≤ x → x < p → (k : Bool) → nat_lt x q ≡ k → byte_at t x ≡ 32
        either x l m true w = let a : x < q = grind (arith, nat_tests) in let b : q - 1 ≡ x = omega arith in subst (λ y. byte_at t y ≡ 32) b e
        either x l m false w = let a : q ≤ x = grind (arith, nat_tests) in (h.1) x a m

    by : (a b : Bool) → nat_lt 0 q ≡ a → (byte_at t (q - 1) == 32) ≡ b → (Spaces t (q - 1) p → Spaces t (iterated (before_space t) n (q - 1)) p) → Spaces t (going_on (λ d. iterated (before_space t) n d) q (if a && b then Some (q - 1) else None)) p
    by true true w e f = let z : 0 < q = grind (arith, nat_tests) in let y : byte_at t (q - 1) ≡ 32 = grind (arith, nat_tests) in f (nearer z y)
    by true false w e f = h
    by false b w e f = h

-- the second byte of an opening bracket of an image
two_first : (xs : List ℕ) (a b : ℕ) → pointwise nat_eq (a ∷ b ∷ []) (take 2 xs) ≡ true → unwrap_or (slice_get xs 1) 10 ≡ b
two_first [] a b e = absurd cc
two_first (x ∷ []) a b e = by (nat_eq a x) e
  where
    by : (k : Bool) → k && false ≡ true → unwrap_or (slice_get (x ∷ []) 1) 10 ≡ b
    by true e = absurd cc
    by false e = absurd cc
two_first (x ∷ y ∷ xs) a b e = by (nat_eq a x) (nat_eq b y) refl e
  where
    by : (k i : Bool) → nat_eq b y ≡ i → k && (i && true) ≡ true → y ≡ b
    by true true w e = grind (arith, nat_tests)
    by true false w e = absurd cc
    by false i w e = absurd cc

pub image_bracket : (t : List ℕ) (p : ℕ) → starts_at t p (codes "![") ≡ true → byte_at t (p + 1) ≡ 91
unfolding starts_at
image_bracket t p e = ap (λ o. unwrap_or o 10) (sym (got_dropped p t 1)) ∙ two_first (drop p t) 33 91 e

pub empty_brackets : (t : List ℕ) (p : ℕ) → starts_at t p (codes "[]") ≡ true → byte_at t (p + 1) ≡ 93
unfolding starts_at
empty_brackets t p e = ap (λ o. unwrap_or o 10) (sym (got_dropped p t 1)) ∙ two_first (drop p t) 91 93 e
