-- What holds of each element of a list, after the list changes.
use Rattle.std.proofs.Common.{◌≡◌, ℕ, zero, suc, ◌+◌, ◌-◌, List, [], ◌∷◌, ◌++◌, length, map, take, refl, ap, sym, ◌∙◌, subst, arith, length-append}
use Rattle.std.specs.Prelude.{slice_get, slice_set, Option, Some, None}
use Rattle.std.specs.List.{AllByRecursion}
use Rattle.std.specs.Option.{option_map_or}

pub all_set : {A : Type 0} (Q : A → Type 0) (xs : List A) (i : ℕ) (y : A) → AllByRecursion Q xs → Q y → AllByRecursion Q (slice_set xs i y)
all_set Q [] i y h k = tt
all_set Q (x ∷ xs) zero y h k = (k, h.1)
all_set Q (x ∷ xs) (suc i) y h k = (h.0, all_set Q xs i y (h.1) k)

pub all_got : {A : Type 0} (Q : A → Type 0) (xs : List A) (i : ℕ) (y : A) → AllByRecursion Q xs → slice_get xs i ≡ Some y → Q y
all_got Q [] i y h e = absurd cc
all_got Q (x ∷ xs) zero y h e = let q : x ≡ y = cc in subst Q q (h.0)
all_got Q (x ∷ xs) (suc i) y h e = all_got Q xs i y (h.1) e

-- one element changes
pub all_changed : {A : Type 0} (Q : A → Type 0) (xs : List A) (i : ℕ) (f : A → A) → ((y : A) → slice_get xs i ≡ Some y → Q y → Q (f y)) → AllByRecursion Q xs → AllByRecursion Q (option_map_or (λ (y : A). slice_set xs i (f y)) (slice_get xs i) xs)
all_changed {A = A} Q xs i f k h = by (slice_get xs i) refl
  where
    by : (o : Option A) → slice_get xs i ≡ o → AllByRecursion Q (option_map_or (λ (y : A). slice_set xs i (f y)) o xs)
    by None e = h
    by (Some y) e = all_set Q xs i (f y) h (k y e (all_got Q xs i y h e))

pub all_both : {A : Type 0} (Q : A → Type 0) (xs ys : List A) → AllByRecursion Q xs → AllByRecursion Q ys → AllByRecursion Q (xs ++ ys)
all_both Q [] ys h k = k
all_both Q (x ∷ xs) ys h k = (h.0, all_both Q xs ys (h.1) k)

pub all_take : {A : Type 0} (Q : A → Type 0) (n : ℕ) (xs : List A) → AllByRecursion Q xs → AllByRecursion Q (take n xs)
all_take Q zero xs h = tt
all_take Q (suc n) [] h = tt
all_take Q (suc n) (x ∷ xs) h = (h.0, all_take Q n xs (h.1))

pub all_weaker : {A : Type 0} (Q R : A → Type 0) (xs : List A) → ((x : A) → Q x → R x) → AllByRecursion Q xs → AllByRecursion R xs
all_weaker Q R [] f h = tt
all_weaker Q R (x ∷ xs) f h = (f x (h.0), all_weaker Q R xs f (h.1))

pub got_front : {A : Type 0} (xs ys : List A) (i : ℕ) (x : A) → slice_get xs i ≡ Some x → slice_get (xs ++ ys) i ≡ Some x
got_front [] ys i x h = absurd cc
got_front (z ∷ zs) ys zero x h = h
got_front (z ∷ zs) ys (suc i) x h = got_front zs ys i x h

pub got_end : {A : Type 0} (xs ys : List A) (x : A) → slice_get (xs ++ x ∷ ys) (length xs) ≡ Some x
got_end [] ys x = refl
got_end (z ∷ zs) ys x = got_end zs ys x

pub set_end : {A : Type 0} (xs ys : List A) (x y : A) → slice_set (xs ++ x ∷ ys) (length xs) y ≡ xs ++ y ∷ ys
set_end [] ys x y = refl
set_end (z ∷ zs) ys x y = ap (λ us. z ∷ us) (set_end zs ys x y)

pub last_place : {A : Type 0} (xs : List A) (x : A) → length (xs ++ x ∷ []) - 1 ≡ length xs
last_place xs x = let w : length (xs ++ x ∷ []) ≡ length xs + 1 = length-append xs (x ∷ []) in omega arith

pub got_last : {A : Type 0} (xs : List A) (x : A) → slice_get (xs ++ x ∷ []) (length (xs ++ x ∷ []) - 1) ≡ Some x
got_last xs x = ap (slice_get (xs ++ x ∷ [])) (last_place xs x) ∙ got_end xs [] x

pub set_last : {A : Type 0} (xs : List A) (x y : A) → slice_set (xs ++ x ∷ []) (length (xs ++ x ∷ []) - 1) y ≡ xs ++ y ∷ []
set_last xs x y = ap (λ i. slice_set (xs ++ x ∷ []) i y) (last_place xs x) ∙ set_end xs [] x y

-- what a change of an element leaves as it is
pub same_numbers : {A B : Type 0} (g : A → B) (xs : List A) (i : ℕ) (f : A → A) → ((y : A) → g (f y) ≡ g y) → map g (option_map_or (λ (y : A). slice_set xs i (f y)) (slice_get xs i) xs) ≡ map g xs
same_numbers {A = A} g xs i f k = by (slice_get xs i) refl
  where
    set : (zs : List A) (j : ℕ) (y : A) → slice_get zs j ≡ Some y → map g (slice_set zs j (f y)) ≡ map g zs
    set [] j y e = refl
    set (z ∷ zs) zero y e = let q : z ≡ y = cc in ap (λ n. n ∷ map g zs) (k y ∙ sym (ap g q))
    set (z ∷ zs) (suc j) y e = ap (λ ns. g z ∷ ns) (set zs j y e)

    by : (o : Option A) → slice_get xs i ≡ o → map g (option_map_or (λ (y : A). slice_set xs i (f y)) o xs) ≡ map g xs
    by None e = refl
    by (Some y) e = set xs i y e

-- the last element changes
pub last_changed : {A : Type 0} (xs front : List A) (x : A) (f : A → A) → xs ≡ front ++ x ∷ [] → option_map_or (λ (y : A). slice_set xs (length xs - 1) (f y)) (slice_get xs (length xs - 1)) xs ≡ front ++ f x ∷ []
last_changed {A = A} xs front x f e = by (slice_get xs (length xs - 1)) (ap (λ (ys : List A). slice_get ys (length ys - 1)) e ∙ got_last front x)
  where
    by : (o : Option A) → o ≡ Some x → option_map_or (λ (y : A). slice_set xs (length xs - 1) (f y)) o xs ≡ front ++ f x ∷ []
    by None h = absurd cc
    by (Some y) h = let q : y ≡ x = cc in ap (λ z. slice_set xs (length xs - 1) (f z)) q ∙ ap (λ (ys : List A). slice_set ys (length ys - 1) (f x)) e ∙ set_last front x (f x)
