-- A list that has some elements in front, and then those of another list, related one by one.
use Rattle.std.proofs.Common.{◌≡◌, ℕ, suc, ◌+◌, ◌-◌, ◌<◌, List, [], ◌∷◌, ◌++◌, length, take, drop, ap, subst, sym, arith}
use Rattle.std.specs.Prelude.{slice_get, slice_set, Option, Some, None}
use Rattle.std.specs.Option.{option_map_or}
use Rattle.tocmark_text_laws.proofs.Pairs.{Pairs, PairOf, changed, pairs_length, pairs_got, pairs_set, pairs_take, pairs_drop, pairs_end}

abbrev pub Past : {A B : Type 0} → List A → (A → B → Type 0) → List A → List B → Type 0
Past [] R xs ys = Pairs R xs ys
Past (f ∷ fs) R [] ys = ⊥
Past (f ∷ fs) R (x ∷ xs) ys = (x ≡ f) × Past fs R xs ys

-- a place after those in front
abbrev pub past : {A : Type 0} → List A → ℕ → ℕ
past [] i = i
past (f ∷ fs) i = suc (past fs i)

pub past_is : {A : Type 0} (fs : List A) (i : ℕ) → past fs i ≡ length fs + i
past_is [] i = omega arith
past_is (f ∷ fs) i = omega (arith, past_is fs i)

pub past_length : {A B : Type 0} (fs : List A) (R : A → B → Type 0) (xs : List A) (ys : List B) → Past fs R xs ys → length xs ≡ past fs (length ys)
past_length [] R xs ys h = pairs_length R xs ys h
past_length (f ∷ fs) R [] ys h = absurd h
past_length (f ∷ fs) R (x ∷ xs) ys h = ap suc (past_length fs R xs ys (h.1))

pub past_got : {A B : Type 0} (fs : List A) (R : A → B → Type 0) (i : ℕ) (xs : List A) (ys : List B) → Past fs R xs ys → PairOf R (slice_get xs (past fs i)) (slice_get ys i)
past_got [] R i xs ys h = pairs_got R i xs ys h
past_got (f ∷ fs) R i [] ys h = absurd h
past_got (f ∷ fs) R i (x ∷ xs) ys h = past_got fs R i xs ys (h.1)

pub past_set : {A B : Type 0} (fs : List A) (R : A → B → Type 0) (i : ℕ) (a : A) (b : B) → R a b → (xs : List A) (ys : List B) → Past fs R xs ys → Past fs R (slice_set xs (past fs i) a) (slice_set ys i b)
past_set [] R i a b k xs ys h = pairs_set R i a b k xs ys h
past_set (f ∷ fs) R i a b k [] ys h = absurd h
past_set (f ∷ fs) R i a b k (x ∷ xs) ys h = (h.0, past_set fs R i a b k xs ys (h.1))

pub past_end : {A B : Type 0} (fs : List A) (R : A → B → Type 0) (a : A) (b : B) → R a b → (xs : List A) (ys : List B) → Past fs R xs ys → Past fs R (xs ++ a ∷ []) (ys ++ b ∷ [])
past_end [] R a b k xs ys h = pairs_end R a b k xs ys h
past_end (f ∷ fs) R a b k [] ys h = absurd h
past_end (f ∷ fs) R a b k (x ∷ xs) ys h = (h.0, past_end fs R a b k xs ys (h.1))

pub past_drop : {A B : Type 0} (fs : List A) (R : A → B → Type 0) (n : ℕ) (xs : List A) (ys : List B) → Past fs R xs ys → Pairs R (drop (past fs n) xs) (drop n ys)
past_drop [] R n xs ys h = pairs_drop R n xs ys h
past_drop (f ∷ fs) R n [] ys h = absurd h
past_drop (f ∷ fs) R n (x ∷ xs) ys h = past_drop fs R n xs ys (h.1)

pub past_take : {A B : Type 0} (fs : List A) (R : A → B → Type 0) (n : ℕ) (xs : List A) (ys : List B) → Past fs R xs ys → Past fs R (take (past fs n) xs) (take n ys)
past_take [] R n xs ys h = pairs_take R n xs ys h
past_take (f ∷ fs) R n [] ys h = absurd h
past_take (f ∷ fs) R n (x ∷ xs) ys h = (h.0, past_take fs R n xs ys (h.1))

pub past_changed : {A B : Type 0} (fs : List A) (R : A → B → Type 0) (i : ℕ) (f : A → A) (g : B → B) → ((x : A) (y : B) → R x y → R (f x) (g y)) → (xs : List A) (ys : List B) → Past fs R xs ys → Past fs R (changed (past fs i) f xs) (changed i g ys)
past_changed {A = A} {B = B} fs R i f g k xs ys h = by (slice_get xs (past fs i)) (slice_get ys i) (past_got fs R i xs ys h)
  where
    by : (o : Option A) (p : Option B) → PairOf R o p → Past fs R (option_map_or (λ z. slice_set xs (past fs i) (f z)) o xs) (option_map_or (λ y. slice_set ys i (g y)) p ys)
    by None None u = h
    by None (Some y) u = absurd u
    by (Some z) None u = absurd u
    by (Some z) (Some y) u = past_set fs R i (f z) (g y) (k z y u) xs ys h

-- the place of the last one
pub past_place : {A B : Type 0} (fs : List A) (R : A → B → Type 0) (xs : List A) (ys : List B) → Past fs R xs ys → 0 < length ys → length xs - 1 ≡ past fs (length ys - 1)
past_place fs R xs ys h some = omega (arith, some, past_length fs R xs ys h, past_is fs (length ys), past_is fs (length ys - 1))

pub past_last : {A B : Type 0} (fs : List A) (R : A → B → Type 0) (f : A → A) (g : B → B) → ((x : A) (y : B) → R x y → R (f x) (g y)) → (xs : List A) (ys : List B) → Past fs R xs ys → 0 < length ys → Past fs R (changed (length xs - 1) f xs) (changed (length ys - 1) g ys)
past_last fs R f g k xs ys h some = subst (λ n. Past fs R (changed n f xs) (changed (length ys - 1) g ys)) (sym (past_place fs R xs ys h some)) (past_changed fs R (length ys - 1) f g k xs ys h)

-- a last one of two lists that are related one by one
pub same_last : {A B : Type 0} (R : A → B → Type 0) (f : A → A) (g : B → B) → ((x : A) (y : B) → R x y → R (f x) (g y)) → (xs : List A) (ys : List B) → Pairs R xs ys → Pairs R (changed (length xs - 1) f xs) (changed (length ys - 1) g ys)
same_last R f g k xs ys h = subst (λ n. Pairs R (changed (n - 1) f xs) (changed (length ys - 1) g ys)) (sym (pairs_length R xs ys h)) (past_changed [] R (length ys - 1) f g k xs ys h)

pub last_got : {A B : Type 0} (R : A → B → Type 0) (xs : List A) (ys : List B) → Pairs R xs ys → PairOf R (slice_get xs (length xs - 1)) (slice_get ys (length ys - 1))
last_got R xs ys h = subst (λ n. PairOf R (slice_get xs (n - 1)) (slice_get ys (length ys - 1))) (sym (pairs_length R xs ys h)) (pairs_got R (length ys - 1) xs ys h)
