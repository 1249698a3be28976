-- Two lists whose elements are related one by one, and a list that has one more in front.
use Rattle.std.proofs.Common.{◌≡◌, ℕ, zero, suc, ◌-◌, ◌<◌, List, [], ◌∷◌, ◌++◌, length, take, drop, refl, ap, subst, sym, arith, length-append}
use Rattle.std.specs.Prelude.{slice_get, slice_set, Option, Some, None}
use Rattle.std.specs.Option.{option_map_or}

abbrev pub Pairs : {A B : Type 0} → (A → B → Type 0) → List A → List B → Type 0
Pairs R [] [] = Unit
Pairs R [] (y ∷ ys) = ⊥
Pairs R (x ∷ xs) [] = ⊥
Pairs R (x ∷ xs) (y ∷ ys) = R x y × Pairs R xs ys

abbrev pub PairOf : {A B : Type 0} → (A → B → Type 0) → Option A → Option B → Type 0
PairOf R None None = Unit
PairOf R None (Some y) = ⊥
PairOf R (Some x) None = ⊥
PairOf R (Some x) (Some y) = R x y

-- an element changes
abbrev pub changed : {A : Type 0} → ℕ → (A → A) → List A → List A
changed i f xs = option_map_or (λ x. slice_set xs i (f x)) (slice_get xs i) xs

pub set_length : {A : Type 0} (xs : List A) (i : ℕ) (x : A) → length (slice_set xs i x) ≡ length xs
set_length [] i x = refl
set_length (y ∷ ys) zero x = refl
set_length (y ∷ ys) (suc i) x = ap suc (set_length ys i x)

pub changed_length : {A : Type 0} (i : ℕ) (f : A → A) (xs : List A) → length (changed i f xs) ≡ length xs
changed_length {A = A} i f xs = by (slice_get xs i)
  where
    by : (p : Option A) → length (option_map_or (λ x. slice_set xs i (f x)) p xs) ≡ length xs
    by None = refl
    by (Some x) = set_length xs i (f x)

pub got_some : {A : Type 0} (xs : List A) (i : ℕ) (x : A) → slice_get xs i ≡ Some x → 0 < length xs
got_some [] i x e = absurd cc
got_some (y ∷ ys) i x e = omega arith

pub end_some : {A : Type 0} (xs : List A) (x : A) → 0 < length (xs ++ x ∷ [])
end_some xs x = omega (arith, length-append xs (x ∷ []))

pub pairs_length : {A B : Type 0} (R : A → B → Type 0) (xs : List A) (ys : List B) → Pairs R xs ys → length xs ≡ length ys
pairs_length R [] [] h = refl
pairs_length R [] (y ∷ ys) h = absurd h
pairs_length R (x ∷ xs) [] h = absurd h
pairs_length R (x ∷ xs) (y ∷ ys) h = ap suc (pairs_length R xs ys (h.1))

pub pairs_got : {A B : Type 0} (R : A → B → Type 0) (i : ℕ) (xs : List A) (ys : List B) → Pairs R xs ys → PairOf R (slice_get xs i) (slice_get ys i)
pairs_got R i [] [] h = tt
pairs_got R i [] (y ∷ ys) h = absurd h
pairs_got R i (x ∷ xs) [] h = absurd h
pairs_got R zero (x ∷ xs) (y ∷ ys) h = h.0
pairs_got R (suc i) (x ∷ xs) (y ∷ ys) h = pairs_got R i xs ys (h.1)

pub pairs_set : {A B : Type 0} (R : A → B → Type 0) (i : ℕ) (a : A) (b : B) → R a b → (xs : List A) (ys : List B) → Pairs R xs ys → Pairs R (slice_set xs i a) (slice_set ys i b)
pairs_set R i a b k [] [] h = tt
pairs_set R i a b k [] (y ∷ ys) h = absurd h
pairs_set R i a b k (x ∷ xs) [] h = absurd h
pairs_set R zero a b k (x ∷ xs) (y ∷ ys) h = (k, h.1)
pairs_set R (suc i) a b k (x ∷ xs) (y ∷ ys) h = (h.0, pairs_set R i a b k xs ys (h.1))

pub pairs_take : {A B : Type 0} (R : A → B → Type 0) (n : ℕ) (xs : List A) (ys : List B) → Pairs R xs ys → Pairs R (take n xs) (take n ys)
pairs_take R zero xs ys h = tt
pairs_take R (suc n) [] [] h = tt
pairs_take R (suc n) [] (y ∷ ys) h = absurd h
pairs_take R (suc n) (x ∷ xs) [] h = absurd h
pairs_take R (suc n) (x ∷ xs) (y ∷ ys) h = (h.0, pairs_take R n xs ys (h.1))

pub pairs_drop : {A B : Type 0} (R : A → B → Type 0) (n : ℕ) (xs : List A) (ys : List B) → Pairs R xs ys → Pairs R (drop n xs) (drop n ys)
pairs_drop R zero xs ys h = h
pairs_drop R (suc n) [] [] h = tt
pairs_drop R (suc n) [] (y ∷ ys) h = absurd h
pairs_drop R (suc n) (x ∷ xs) [] h = absurd h
pairs_drop R (suc n) (x ∷ xs) (y ∷ ys) h = pairs_drop R n xs ys (h.1)

pub pairs_end : {A B : Type 0} (R : A → B → Type 0) (a : A) (b : B) → R a b → (xs : List A) (ys : List B) → Pairs R xs ys → Pairs R (xs ++ a ∷ []) (ys ++ b ∷ [])
pairs_end R a b k [] [] h = (k, tt)
pairs_end R a b k [] (y ∷ ys) h = absurd h
pairs_end R a b k (x ∷ xs) [] h = absurd h
pairs_end R a b k (x ∷ xs) (y ∷ ys) h = (h.0, pairs_end R a b k xs ys (h.1))

-- one element more is in front
abbrev pub After : {A B : Type 0} → (A → Type 0) → (A → B → Type 0) → List A → List B → Type 0
After H R [] ys = ⊥
After H R (x ∷ xs) ys = H x × Pairs R xs ys

-- the last one of each, or the one more
abbrev pub LastOf : {A B : Type 0} → (A → Type 0) → (A → B → Type 0) → Option A → Option B → Type 0
LastOf H R None None = Unit
LastOf H R None (Some y) = ⊥
LastOf H R (Some x) None = H x
LastOf H R (Some x) (Some y) = R x y

pub after_length : {A B : Type 0} (H : A → Type 0) (R : A → B → Type 0) (xs : List A) (ys : List B) → After H R xs ys → length xs ≡ suc (length ys)
after_length H R [] ys h = absurd h
after_length H R (x ∷ xs) ys h = ap suc (pairs_length R xs ys (h.1))

pub after_got : {A B : Type 0} (H : A → Type 0) (R : A → B → Type 0) (i : ℕ) (xs : List A) (ys : List B) → After H R xs ys → PairOf R (slice_get xs (suc i)) (slice_get ys i)
after_got H R i [] ys h = absurd h
after_got H R i (x ∷ xs) ys h = pairs_got R i xs ys (h.1)

pub after_set : {A B : Type 0} (H : A → Type 0) (R : A → B → Type 0) (i : ℕ) (a : A) (b : B) → R a b → (xs : List A) (ys : List B) → After H R xs ys → After H R (slice_set xs (suc i) a) (slice_set ys i b)
after_set H R i a b k [] ys h = absurd h
after_set H R i a b k (x ∷ xs) ys h = (h.0, pairs_set R i a b k xs ys (h.1))

pub after_take : {A B : Type 0} (H : A → Type 0) (R : A → B → Type 0) (n : ℕ) (xs : List A) (ys : List B) → After H R xs ys → After H R (take (suc n) xs) (take n ys)
after_take H R n [] ys h = absurd h
after_take H R n (x ∷ xs) ys h = (h.0, pairs_take R n xs ys (h.1))

pub after_end : {A B : Type 0} (H : A → Type 0) (R : A → B → Type 0) (a : A) (b : B) → R a b → (xs : List A) (ys : List B) → After H R xs ys → After H R (xs ++ a ∷ []) (ys ++ b ∷ [])
after_end H R a b k [] ys h = absurd h
after_end H R a b k (x ∷ xs) ys h = (h.0, pairs_end R a b k xs ys (h.1))

pub after_changed : {A B : Type 0} (H : A → Type 0) (R : A → B → Type 0) (i : ℕ) (f : A → A) (g : B → B) → ((x : A) (y : B) → R x y → R (f x) (g y)) → (xs : List A) (ys : List B) → After H R xs ys → After H R (changed (suc i) f xs) (changed i g ys)
after_changed H R i f g k [] ys h = absurd h
after_changed {A = A} {B = B} H R i f g k (x ∷ xs) ys h = by (slice_get xs i) (slice_get ys i) (pairs_got R i xs ys (h.1))
  where
    by : (o : Option A) (p : Option B) → PairOf R o p → After H R (option_map_or (λ z. slice_set (x ∷ xs) (suc i) (f z)) o (x ∷ xs)) (option_map_or (λ y. slice_set ys i (g y)) p ys)
    by None None u = h
    by None (Some y) u = absurd u
    by (Some z) None u = absurd u
    by (Some z) (Some y) u = (h.0, pairs_set R i (f z) (g y) (k z y u) xs ys (h.1))

-- the place of the last one
pub after_place : {A B : Type 0} (H : A → Type 0) (R : A → B → Type 0) (xs : List A) (ys : List B) → After H R xs ys → 0 < length ys → length xs - 1 ≡ suc (length ys - 1)
after_place H R xs ys h some = omega (arith, some, after_length H R xs ys h)

pub after_last : {A B : Type 0} (H : A → Type 0) (R : A → B → Type 0) (f : A → A) (g : B → B) → ((x : A) (y : B) → R x y → R (f x) (g y)) → (xs : List A) (ys : List B) → After H R xs ys → 0 < length ys → After H R (changed (length xs - 1) f xs) (changed (length ys - 1) g ys)
after_last H R f g k xs ys h some = subst (λ n. After H R (changed n f xs) (changed (length ys - 1) g ys)) (sym (after_place H R xs ys h some)) (after_changed H R (length ys - 1) f g k xs ys h)

-- the same where the one more may be the last, if it stays what it is
pub after_each_last : {A B : Type 0} (H : A → Type 0) (R : A → B → Type 0) (f : A → A) (g : B → B) → ((x : A) → H x → H (f x)) → ((x : A) (y : B) → R x y → R (f x) (g y)) → (xs : List A) (ys : List B) → After H R xs ys → After H R (changed (length xs - 1) f xs) (changed (length ys - 1) g ys)
after_each_last H R f g j k [] ys h = absurd h
after_each_last H R f g j k (x ∷ []) [] h = (j x (h.0), tt)
after_each_last H R f g j k (x ∷ z ∷ xs) [] h = absurd (h.1)
after_each_last H R f g j k (x ∷ xs) (y ∷ ys) h = after_last H R f g k (x ∷ xs) (y ∷ ys) h (omega arith)

pub after_last_got : {A B : Type 0} (H : A → Type 0) (R : A → B → Type 0) (xs : List A) (ys : List B) → After H R xs ys → LastOf H R (slice_get xs (length xs - 1)) (slice_get ys (length ys - 1))
after_last_got H R [] ys h = absurd h
after_last_got H R (x ∷ []) [] h = h.0
after_last_got H R (x ∷ z ∷ xs) [] h = absurd (h.1)
after_last_got {A = A} {B = B} H R (x ∷ xs) (y ∷ ys) h = subst (λ n. LastOf H R (slice_get (x ∷ xs) n) (slice_get (y ∷ ys) (length (y ∷ ys) - 1))) (sym (after_place H R (x ∷ xs) (y ∷ ys) h (omega arith))) (by (slice_get xs (length (y ∷ ys) - 1)) (slice_get (y ∷ ys) (length (y ∷ ys) - 1)) (pairs_got R (length (y ∷ ys) - 1) xs (y ∷ ys) (h.1)))
  where
    by : (o : Option A) (p : Option B) → PairOf R o p → LastOf H R o p
    by None None u = tt
    by None (Some b) u = absurd u
    by (Some a) None u = absurd u
    by (Some a) (Some b) u = u

-- two elements more are in front
abbrev pub Afters : {A B : Type 0} → (A → Type 0) → (A → Type 0) → (A → B → Type 0) → List A → List B → Type 0
Afters G H R [] ys = ⊥
Afters G H R (x ∷ xs) ys = G x × After H R xs ys

pub afters_length : {A B : Type 0} (G H : A → Type 0) (R : A → B → Type 0) (xs : List A) (ys : List B) → Afters G H R xs ys → length xs ≡ suc (suc (length ys))
afters_length G H R [] ys h = absurd h
afters_length G H R (x ∷ xs) ys h = ap suc (after_length H R xs ys (h.1))

pub afters_got : {A B : Type 0} (G H : A → Type 0) (R : A → B → Type 0) (i : ℕ) (xs : List A) (ys : List B) → Afters G H R xs ys → PairOf R (slice_get xs (suc (suc i))) (slice_get ys i)
afters_got G H R i [] ys h = absurd h
afters_got G H R i (x ∷ xs) ys h = after_got H R i xs ys (h.1)

pub afters_set : {A B : Type 0} (G H : A → Type 0) (R : A → B → Type 0) (i : ℕ) (a : A) (b : B) → R a b → (xs : List A) (ys : List B) → Afters G H R xs ys → Afters G H R (slice_set xs (suc (suc i)) a) (slice_set ys i b)
afters_set G H R i a b k [] ys h = absurd h
afters_set G H R i a b k (x ∷ xs) ys h = (h.0, after_set H R i a b k xs ys (h.1))

pub afters_take : {A B : Type 0} (G H : A → Type 0) (R : A → B → Type 0) (n : ℕ) (xs : List A) (ys : List B) → Afters G H R xs ys → Afters G H R (take (suc (suc n)) xs) (take n ys)
afters_take G H R n [] ys h = absurd h
afters_take G H R n (x ∷ xs) ys h = (h.0, after_take H R n xs ys (h.1))

pub afters_end : {A B : Type 0} (G H : A → Type 0) (R : A → B → Type 0) (a : A) (b : B) → R a b → (xs : List A) (ys : List B) → Afters G H R xs ys → Afters G H R (xs ++ a ∷ []) (ys ++ b ∷ [])
afters_end G H R a b k [] ys h = absurd h
afters_end G H R a b k (x ∷ xs) ys h = (h.0, after_end H R a b k xs ys (h.1))

pub afters_changed : {A B : Type 0} (G H : A → Type 0) (R : A → B → Type 0) (i : ℕ) (f : A → A) (g : B → B) → ((x : A) (y : B) → R x y → R (f x) (g y)) → (xs : List A) (ys : List B) → Afters G H R xs ys → Afters G H R (changed (suc (suc i)) f xs) (changed i g ys)
afters_changed G H R i f g k [] ys h = absurd h
afters_changed {A = A} {B = B} G H R i f g k (x ∷ xs) ys h = by (slice_get xs (suc i)) (slice_get ys i) (after_got H R i xs ys (h.1))
  where
    by : (o : Option A) (p : Option B) → PairOf R o p → Afters G H R (option_map_or (λ z. slice_set (x ∷ xs) (suc (suc i)) (f z)) o (x ∷ xs)) (option_map_or (λ y. slice_set ys i (g y)) p ys)
    by None None u = h
    by None (Some y) u = absurd u
    by (Some z) None u = absurd u
    by (Some z) (Some y) u = (h.0, after_set H R i (f z) (g y) (k z y u) xs ys (h.1))

-- the place of the last one
pub afters_place : {A B : Type 0} (G H : A → Type 0) (R : A → B → Type 0) (xs : List A) (ys : List B) → Afters G H R xs ys → 0 < length ys → length xs - 1 ≡ suc (suc (length ys - 1))
afters_place G H R xs ys h some = omega (arith, some, afters_length G H R xs ys h)

pub afters_last : {A B : Type 0} (G H : A → Type 0) (R : A → B → Type 0) (f : A → A) (g : B → B) → ((x : A) (y : B) → R x y → R (f x) (g y)) → (xs : List A) (ys : List B) → Afters G H R xs ys → 0 < length ys → Afters G H R (changed (length xs - 1) f xs) (changed (length ys - 1) g ys)
afters_last G H R f g k xs ys h some = subst (λ n. Afters G H R (changed n f xs) (changed (length ys - 1) g ys)) (sym (afters_place G H R xs ys h some)) (afters_changed G H R (length ys - 1) f g k xs ys h)

-- the same where the second one more may be the last, if it stays what it is
pub afters_each_last : {A B : Type 0} (G H : A → Type 0) (R : A → B → Type 0) (f : A → A) (g : B → B) → ((x : A) → H x → H (f x)) → ((x : A) (y : B) → R x y → R (f x) (g y)) → (xs : List A) (ys : List B) → Afters G H R xs ys → Afters G H R (changed (length xs - 1) f xs) (changed (length ys - 1) g ys)
afters_each_last G H R f g j k [] ys h = absurd h
afters_each_last G H R f g j k (x ∷ []) ys h = absurd (h.1)
afters_each_last G H R f g j k (x ∷ z ∷ []) [] h = (h.0, (j z (h.1.0), tt))
afters_each_last G H R f g j k (x ∷ z ∷ w ∷ xs) [] h = absurd (h.1.1)
afters_each_last G H R f g j k (x ∷ z ∷ xs) (y ∷ ys) h = afters_last G H R f g k (x ∷ z ∷ xs) (y ∷ ys) h (omega arith)

pub afters_last_got : {A B : Type 0} (G H : A → Type 0) (R : A → B → Type 0) (xs : List A) (ys : List B) → Afters G H R xs ys → LastOf H R (slice_get xs (length xs - 1)) (slice_get ys (length ys - 1))
afters_last_got G H R [] ys h = absurd h
afters_last_got G H R (x ∷ []) ys h = absurd (h.1)
afters_last_got {A = A} {B = B} G H R (x ∷ z ∷ xs) ys h = subst (λ n. LastOf H R (slice_get (x ∷ z ∷ xs) n) (slice_get ys (length ys - 1))) (let e : suc (length (z ∷ xs) - 1) ≡ length (x ∷ z ∷ xs) - 1 = omega arith in e) (after_last_got H R (z ∷ xs) ys (h.1))
