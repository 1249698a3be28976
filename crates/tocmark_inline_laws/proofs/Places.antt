-- Roles at places, and what tests say of places of a content.
use Rattle.std.proofs.Common.{◌≡◌, ℕ, zero, suc, ◌+◌, ◌-◌, ◌<◌, ◌≤◌, Bool, true, false, ◌==◌, ◌&&◌, nat_lt, if◌then◌else◌, List, [], ◌∷◌, ◌++◌, length, drop, replicate, refl, ap, sym, ◌∙◌, arith}
use Rattle.std.proofs.lemmas.Bool.Decides.{nat_tests}
use Rattle.std.proofs.lemmas.List.{replicate-append-replicate}
use Rattle.std.specs.Prelude.{Option, Some, None, slice_set, nat_eq}
use Rattle.std.specs.List.{AllByRecursion, list_any, starts_with}
use Rattle.tocmark_read_scan.specs.Basic.{byte_at, starts_at}
use Rattle.tocmark_read_scan.specs.Repeat.{iterated, going_on}
use Rattle.tocmark_read_scan.proofs.PlainPlaces.{byte_dropped}
use Rattle.tocmark_read_scan.proofs.PlainTests.{eq_of, or_first, or_second}
use Rattle.tocmark_read_inlines.specs.Scan.{before_space}
use Rattle.tocmark_read_spans.specs.declared.role.Role.TheVariants as role
use Rattle.tocmark_inline_laws.proofs.Sim.{Clean}
use Rattle.tocmark_inline_laws.proofs.Plains.{byte_is}
use Rattle.tocmark_inline_laws.proofs.Stretches.{drop_length, first_left}

pub set_here : {A : Type 0} (xs ys : List A) (y z : A) (n : ℕ) → n ≡ length xs → slice_set (xs ++ y ∷ ys) n z ≡ xs ++ z ∷ ys
set_here xs ys y z n e = ap (λ k. slice_set (xs ++ y ∷ ys) k z) e ∙ here xs ys y z
  where
    here : {A : Type 0} (xs ys : List A) (y z : A) → slice_set (xs ++ y ∷ ys) (length xs) z ≡ xs ++ z ∷ ys
    here [] ys y z = refl
    here (x ∷ xs) ys y z = ap (λ l. x ∷ l) (here xs ys y z)

pub set_next : {A : Type 0} (xs ys : List A) (x y z : A) (n : ℕ) → n ≡ suc (length xs) → slice_set (xs ++ x ∷ y ∷ ys) n z ≡ xs ++ x ∷ z ∷ ys
set_next xs ys x y z n e = ap (λ k. slice_set (xs ++ x ∷ y ∷ ys) k z) e ∙ here xs ys x y z
  where
    here : {A : Type 0} (xs ys : List A) (x y z : A) → slice_set (xs ++ x ∷ y ∷ ys) (suc (length xs)) z ≡ xs ++ x ∷ z ∷ ys
    here [] ys x y z = refl
    here (w ∷ xs) ys x y z = ap (λ l. w ∷ l) (here xs ys x y z)

-- the plain bytes of a token, and those after it
pub plain_split : (n p k : ℕ) → p + suc k ≤ n → replicate (n - p) role.Plain ≡ role.Plain ∷ (replicate k role.Plain ++ replicate (n - (p + suc k)) role.Plain)
plain_split n p k h =
    ap (λ m. replicate m role.Plain) (let e : n - p ≡ suc (k + (n - (p + suc k))) = omega arith in e)
    ∙ ap (λ rs. role.Plain ∷ rs) (sym (replicate-append-replicate k (n - (p + suc k)) role.Plain))

-- a space before a place
before_at : (bytes : List ℕ) (m q : ℕ) → m ≡ suc q → before_space bytes m ≡ (if byte_at bytes q == 32 then Some q else None)
unfolding before_space
before_at bytes m q e =
    let one : m - 1 ≡ q = omega (arith, e) in
    let some : nat_lt 0 m ≡ true = grind (arith, nat_tests, e) in
    ap (λ (z : Bool). if z && (byte_at bytes (m - 1) == 32) then Some (m - 1) else None) some
    ∙ ap (λ (r : ℕ). if byte_at bytes r == 32 then Some r else None) one

-- a place after a byte that is no space
pub clean_after : (bytes : List ℕ) (p e : ℕ) → e ≡ suc p → (byte_at bytes p == 32) ≡ false → Clean bytes e
clean_after bytes p e at h c is gap = before_at bytes e p at ∙ ap (λ (z : Bool). if z then Some p else None) h

-- at the front nothing is before
pub clean_front : (bytes : List ℕ) → Clean bytes 0
unfolding before_space
clean_front bytes c is gap = refl

-- spaces are gone back over
pub gone_back : (bytes xs rest : List ℕ) (p : ℕ) → drop p bytes ≡ xs ++ rest → AllByRecursion (λ c. (c == 32) ≡ true) xs → before_space bytes p ≡ None → (k fuel : ℕ) → k ≤ fuel → k ≤ length xs → iterated (before_space bytes) fuel (p + k) ≡ p
unfolding iterated
gone_back bytes xs rest p e h none zero fuel l m = ap (λ q. iterated (before_space bytes) fuel q) (let z : p + 0 ≡ p = omega arith in z) ∙ stop fuel
  where
    stop : (n : ℕ) → iterated (before_space bytes) n p ≡ p
    stop zero = refl
    stop (suc n) = ap (λ (o : Option ℕ). going_on (λ d. iterated (before_space bytes) n d) p o) none
gone_back bytes xs rest p e h none (suc k) zero l m = absurd (omega arith)
gone_back bytes xs rest p e h none (suc k) (suc fuel) l m =
    ap (λ (o : Option ℕ). going_on (λ d. iterated (before_space bytes) fuel d) (p + suc k) o)
    (before_at bytes (p + suc k) (p + k) (let z : p + suc k ≡ suc (p + k) = omega arith in z)
    ∙ ap (λ (z : Bool). if z then Some (p + k) else None) (byte_is (λ c. (c == 32) ≡ true) bytes xs rest p k e h (omega arith)))
    ∙ gone_back bytes xs rest p e h none k fuel (omega arith) (omega arith)

flip : (a b : ℕ) → (a == b) ≡ (b == a)
flip a b = by (a == b) refl
  where
    by : (z : Bool) → (a == b) ≡ z → z ≡ (b == a)
    by true e = let k : a ≡ b = eq_of a b e in let m : (b == a) ≡ true = grind (arith, nat_tests) in sym m
    by false e = let m : (b == a) ≡ false = grind (arith, e, nat_tests) in sym m

and_no : (a : Bool) → (a && false) ≡ false
and_no true = refl
and_no false = refl

and_yes : (a : Bool) → (a && true) ≡ a
and_yes true = refl
and_yes false = refl

self_is : (v : ℕ) → (v == v) ≡ true
self_is v = grind (arith, nat_tests)

not_below : (p n : ℕ) → n ≤ p → nat_lt p n ≡ false
not_below p n h = grind (arith, nat_tests)

below : (p n : ℕ) → p < n → nat_lt p n ≡ true
below p n h = grind (arith, nat_tests)

-- a word of two bytes of which the first one is here
pub two_at : (bytes : List ℕ) (p v w : ℕ) → p < length bytes → byte_at bytes p ≡ v → starts_at bytes p (v ∷ w ∷ []) ≡ (nat_lt (p + 1) (length bytes) && (byte_at bytes (p + 1) == w))
unfolding starts_at
two_at bytes p v w h is = by (drop (suc p) bytes) refl
  where
    one : p + 1 ≡ suc p
    one = omega arith

    self : (v == v) ≡ true
    self = self_is v

    left : length (drop (suc p) bytes) + suc p ≡ length bytes
    left = drop_length bytes (suc p) (omega arith)

    front : (ys : List ℕ) → drop (suc p) bytes ≡ ys → drop p bytes ≡ v ∷ ys
    front ys e = first_left bytes p h ∙ ap (λ b. b ∷ drop (suc p) bytes) is ∙ ap (λ zs. v ∷ zs) e

    by : (ys : List ℕ) → drop (suc p) bytes ≡ ys → starts_with nat_eq (drop p bytes) (v ∷ w ∷ []) ≡ (nat_lt (p + 1) (length bytes) && (byte_at bytes (p + 1) == w))
    by [] e =
        let l : length (drop (suc p) bytes) ≡ 0 = ap length e in
        let no : nat_lt (p + 1) (length bytes) ≡ false = not_below (p + 1) (length bytes) (omega (arith, l, left)) in
        ap (λ zs. starts_with nat_eq zs (v ∷ w ∷ [])) (front [] e) ∙ and_no (v == v) ∙ sym (ap (λ (z : Bool). z && (byte_at bytes (p + 1) == w)) no)
    by (c ∷ cs) e =
        let l : length (drop (suc p) bytes) ≡ suc (length cs) = ap length e in
        let yes : nat_lt (p + 1) (length bytes) ≡ true = below (p + 1) (length bytes) (omega (arith, l, left)) in
        ap (λ zs. starts_with nat_eq zs (v ∷ w ∷ [])) (front (c ∷ cs) e)
        ∙ ap (λ (z : Bool). z && ((w == c) && true)) self
        ∙ and_yes (w == c)
        ∙ flip w c
        ∙ ap (λ b. b == w) (sym (byte_dropped bytes (suc p) c cs e) ∙ ap (λ m. byte_at bytes m) (sym one))
        ∙ sym (ap (λ (z : Bool). z && (byte_at bytes (p + 1) == w)) yes)

-- a byte of a content passes a test, so some byte does
pub any_byte : (g : ℕ → Bool) (bytes : List ℕ) (p : ℕ) → p < length bytes → g (byte_at bytes p) ≡ true → list_any g bytes ≡ true
any_byte g [] p l h = absurd (omega arith)
any_byte g (x ∷ xs) zero l h = or_first (g x) (list_any g xs) h
any_byte g (x ∷ xs) (suc p) l h = or_second (g x) (list_any g xs) (any_byte g xs p (omega arith) h)

-- past the end a line feed is assumed
pub past_end : (bytes : List ℕ) (p : ℕ) → length bytes ≤ p → byte_at bytes p ≡ 10
past_end [] p h = refl
past_end (x ∷ xs) zero h = absurd (omega arith)
past_end (x ∷ xs) (suc p) h = past_end xs p (omega arith)
