-- What tests say of bytes, and what follows for the tests from what is known of bytes.
use Rattle.std.proofs.Common.{◌≡◌, ℕ, Bool, true, false, not, ◌==◌, ◌&&◌, ◌||◌, List, [], ◌∷◌, refl, ap, sym, ◌∙◌, arith, ◌⊎◌, inl, inr, true≢false}
use Rattle.std.proofs.lemmas.Bool.Decides.{nat_tests}
use Rattle.std.specs.Char.{char_set_contains}
use Rattle.std.specs.List.{AllByRecursion, list_all}

pub eq_of : (c d : ℕ) → (c == d) ≡ true → c ≡ d
eq_of c d e = grind (arith, e, nat_tests)

-- numbers that aren't equal
pub not_char : (c d : ℕ) → (c ≡ d → ⊥) → (c == d) ≡ false
not_char c d f = by_eq (c == d) refl
  where
    by_eq : (k : Bool) → (c == d) ≡ k → k ≡ false
    by_eq true e = absurd (f (eq_of c d e))
    by_eq false e = refl

-- characters that differ by a test
pub differs : (test : ℕ → Bool) (c d : ℕ) → test d ≡ true → test c ≡ false → (c == d) ≡ false
differs test c d h k = not_char c d (λ e. true≢false (sym h ∙ ap test (sym e) ∙ k))

pub turned : (test : ℕ → Bool) (c d : ℕ) → test d ≡ true → test c ≡ false → (d == c) ≡ false
turned test c d h k = not_char d c (λ e. true≢false (sym h ∙ ap test e ∙ k))

swapped : (c d : ℕ) → (c == d) ≡ false → (d == c) ≡ false
swapped c d h = grind (arith, h, nat_tests)

pub both_true : (a b : Bool) → (a && b) ≡ true → (a ≡ true) × (b ≡ true)
both_true true b h = (refl, h)
both_true false b h = absurd (true≢false (sym h))

pub all_true : (a b c : Bool) → (a && b && c) ≡ true → (a ≡ true) × (b ≡ true) × (c ≡ true)
all_true true true c h = (refl, refl, h)
all_true true false c h = absurd (true≢false (sym h))
all_true false b c h = absurd (true≢false (sym h))

pub both_false : (a b : Bool) → (a || b) ≡ false → (a ≡ false) × (b ≡ false)
both_false true b h = absurd (true≢false h)
both_false false b h = (refl, h)

pub is_not : (a : Bool) → not a ≡ true → a ≡ false
is_not true h = absurd (true≢false (sym h))
is_not false h = refl

pub one_of_two : (a b : Bool) → (a || b) ≡ true → (a ≡ true) ⊎ (b ≡ true)
one_of_two true b h = inl refl
one_of_two false b h = inr h

pub one_of_three : (a b c : Bool) → (a || b || c) ≡ true → (a ≡ true) ⊎ (b ≡ true) ⊎ (c ≡ true)
one_of_three true b c h = inl refl
one_of_three false true c h = inr (inl refl)
one_of_three false false c h = inr (inr h)

pub one_of_four : (a b c d : Bool) → (a || b || c || d) ≡ true → (a ≡ true) ⊎ (b ≡ true) ⊎ (c ≡ true) ⊎ (d ≡ true)
one_of_four true b c d h = inl refl
one_of_four false true c d h = inr (inl refl)
one_of_four false false true d h = inr (inr (inl refl))
one_of_four false false false d h = inr (inr (inr h))

-- one of two that holds
pub or_first : (a b : Bool) → a ≡ true → (a || b) ≡ true
or_first true b h = refl
or_first false b h = absurd (true≢false (sym h))

pub or_second : (a b : Bool) → b ≡ true → (a || b) ≡ true
or_second true b h = refl
or_second false b h = h

-- a byte that is none of these
pub none_of : (xs : List ℕ) (c : ℕ) → AllByRecursion (λ x. (c == x) ≡ false) xs → char_set_contains xs c ≡ false
none_of [] c h = refl
none_of (x ∷ xs) c h = rw (swapped c x (h.0)) (none_of xs c (h.1))

-- a test of each element is a fact of each
pub all_from : {A : Type 0} (test : A → Bool) (P : A → Type 0) (xs : List A) → ((x : A) → test x ≡ true → P x) → list_all test xs ≡ true → AllByRecursion P xs
all_from test P [] f h = tt
all_from test P (x ∷ xs) f h = let both = both_true (test x) (list_all test xs) h in (f x (both.0), all_from test P xs f (both.1))

pub all_to : {A : Type 0} (test : A → Bool) (P : A → Type 0) (xs : List A) → ((x : A) → P x → test x ≡ true) → AllByRecursion P xs → list_all test xs ≡ true
all_to test P [] f h = refl
all_to test P (x ∷ xs) f h = rw (f x (h.0)) (all_to test P xs f (h.1))
