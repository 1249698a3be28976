-- The elements of a list at places.
use Rattle.std.proofs.Common.{◌≡◌, ℕ, zero, suc, ◌+◌, ◌<◌, ◌⊎◌, inl, inr, List, [], ◌∷◌, ◌++◌, length, take, drop, refl, ap, sym, ◌∙◌, subst, arith}
use Rattle.std.specs.Prelude.{slice_get, slice_set, Option, Some, None}
use Rattle.std.specs.Option.{option_map_or}
use Rattle.std.specs.List.{AllByRecursion}

-- an element of the front of a list
pub got_take : {A : Type 0} (n : ℕ) (xs : List A) (i : ℕ) (x : A) → slice_get (take n xs) i ≡ Some x → (i < n) × (slice_get xs i ≡ Some x)
got_take zero xs i x e = absurd cc
got_take (suc n) [] i x e = absurd cc
got_take (suc n) (y ∷ ys) zero x e = (omega arith, e)
got_take (suc n) (y ∷ ys) (suc i) x e = let w : (i < n) × (slice_get ys i ≡ Some x) = got_take n ys i x e in (let a : i < n = w.0 in omega arith, w.1)

-- an element of the rest of a list
pub got_drop : {A : Type 0} (n : ℕ) (xs : List A) (i j : ℕ) (x : A) → j ≡ n + i → slice_get (drop n xs) i ≡ Some x → slice_get xs j ≡ Some x
got_drop zero [] i j x w e = absurd cc
got_drop zero (y ∷ ys) i j x w e = let q : i ≡ j = omega arith in subst (λ k. slice_get (y ∷ ys) k ≡ Some x) q e
got_drop (suc n) [] i j x w e = absurd cc
got_drop (suc n) (y ∷ ys) i zero x w e = absurd (omega arith)
got_drop (suc n) (y ∷ ys) i (suc j) x w e = got_drop n ys i j x (omega arith) e

-- an element of a list with one more
pub got_more : {A : Type 0} (xs : List A) (y : A) (i : ℕ) (x : A) → slice_get (xs ++ y ∷ []) i ≡ Some x → ((i < length xs) × (slice_get xs i ≡ Some x)) ⊎ ((i ≡ length xs) × (y ≡ x))
got_more [] y zero x e = inr (refl, cc)
got_more [] y (suc i) x e = absurd cc
got_more (z ∷ zs) y zero x e = inl (omega arith, e)
got_more (z ∷ zs) y (suc i) x e = by (got_more zs y i x e)
  where
    by : ((i < length zs) × (slice_get zs i ≡ Some x)) ⊎ ((i ≡ length zs) × (y ≡ x)) → ((suc i < suc (length zs)) × (slice_get zs i ≡ Some x)) ⊎ ((suc i ≡ suc (length zs)) × (y ≡ x))
    by (inl w) = inl (let a : i < length zs = w.0 in omega arith, w.1)
    by (inr w) = inr (let a : i ≡ length zs = w.0 in omega arith, w.1)

-- what holds at each place holds of each element
pub all_of : {A : Type 0} (Q : A → Type 0) (xs : List A) → ((i : ℕ) (x : A) → slice_get xs i ≡ Some x → Q x) → AllByRecursion Q xs
all_of Q [] f = tt
all_of Q (x ∷ xs) f = (f zero x refl, all_of Q xs (λ i y e. f (suc i) y e))

-- an element at the front of a list stays there
pub take_got : {A : Type 0} (n : ℕ) (xs : List A) (i : ℕ) (x : A) → i < n → slice_get xs i ≡ Some x → slice_get (take n xs) i ≡ Some x
take_got zero xs i x l e = absurd (omega arith)
take_got (suc n) [] i x l e = e
take_got (suc n) (y ∷ ys) zero x l e = e
take_got (suc n) (y ∷ ys) (suc i) x l e = take_got n ys i x (omega arith) e

-- an element of a list in which one is replaced
set_got : {A : Type 0} (xs : List A) (i : ℕ) (v : A) (j : ℕ) (x : A) → slice_get xs j ≡ Some x → ((i ≡ j) × (slice_get (slice_set xs i v) j ≡ Some v)) ⊎ (slice_get (slice_set xs i v) j ≡ Some x)
set_got [] i v j x e = absurd cc
set_got (y ∷ ys) zero v zero x e = inl (refl, refl)
set_got (y ∷ ys) zero v (suc j) x e = inr e
set_got (y ∷ ys) (suc i) v zero x e = inr e
set_got (y ∷ ys) (suc i) v (suc j) x e = by (set_got ys i v j x e)
  where
    by : ((i ≡ j) × (slice_get (slice_set ys i v) j ≡ Some v)) ⊎ (slice_get (slice_set ys i v) j ≡ Some x) → ((suc i ≡ suc j) × (slice_get (slice_set ys i v) j ≡ Some v)) ⊎ (slice_get (slice_set ys i v) j ≡ Some x)
    by (inl w) = inl (let a : i ≡ j = w.0 in omega arith, w.1)
    by (inr w) = inr w

-- an element of a list in which one changes
pub changed_got : {A : Type 0} (xs : List A) (i : ℕ) (f : A → A) (j : ℕ) (x : A) → slice_get xs j ≡ Some x
    → ((i ≡ j) × (slice_get (option_map_or (λ (y : A). slice_set xs i (f y)) (slice_get xs i) xs) j ≡ Some (f x))) ⊎ (slice_get (option_map_or (λ (y : A). slice_set xs i (f y)) (slice_get xs i) xs) j ≡ Some x)
changed_got {A = A} xs i f j x e = by (slice_get xs i) refl
  where
    with : (y : A) → slice_get xs i ≡ Some y → ((i ≡ j) × (slice_get (slice_set xs i (f y)) j ≡ Some (f y))) ⊎ (slice_get (slice_set xs i (f y)) j ≡ Some x) → ((i ≡ j) × (slice_get (slice_set xs i (f y)) j ≡ Some (f x))) ⊎ (slice_get (slice_set xs i (f y)) j ≡ Some x)
    with y q (inl w) = let a : Some y ≡ Some x = sym q ∙ ap (slice_get xs) (w.0) ∙ e in let z : y ≡ x = cc in inl (w.0, w.1 ∙ ap (λ v. Some (f v)) z)
    with y q (inr w) = inr w

    by : (o : Option A) → slice_get xs i ≡ o → ((i ≡ j) × (slice_get (option_map_or (λ (y : A). slice_set xs i (f y)) o xs) j ≡ Some (f x))) ⊎ (slice_get (option_map_or (λ (y : A). slice_set xs i (f y)) o xs) j ≡ Some x)
    by None q = inr e
    by (Some y) q = with y q (set_got xs i (f y) j x e)
