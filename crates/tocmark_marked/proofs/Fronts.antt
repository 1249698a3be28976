-- A list whose first items are changed.
use Rattle.std.proofs.Common.{◌≡◌, ℕ, zero, suc, ◌<◌, ◌≤◌, List, [], ◌∷◌, length, map, slice_index_or, slice_set, refl, ap, ap₂, arith}

-- the first so many items changed, and the others as they are
abbrev pub front : {A : Type 0} → (A → A) → ℕ → List A → List A
front h zero xs = xs
front h (suc n) [] = []
front h (suc n) (x ∷ xs) = h x ∷ front h n xs

pub all_changed : {A : Type 0} (h : A → A) (n : ℕ) (xs : List A) → length xs ≤ n → front h n xs ≡ map h xs
all_changed h zero [] l = refl
all_changed h zero (x ∷ xs) l = absurd (omega arith)
all_changed h (suc n) [] l = refl
all_changed h (suc n) (x ∷ xs) l = ap (λ ys. h x ∷ ys) (all_changed h n xs (omega arith))

pub one_more : {A : Type 0} (h : A → A) (xs vs : List A) (i : ℕ) (d new : A) → xs ≡ front h i vs → i < length xs → new ≡ h (slice_index_or xs i d) → slice_set xs i new ≡ front h (suc i) vs
one_more h [] vs i d new e l same = absurd (omega arith)
one_more h (x ∷ xs) [] zero d new e l same = absurd (let is = e in cc)
one_more h (x ∷ xs) (v ∷ vs) zero d new e l same = let is = e in let one = same in cc
one_more h (x ∷ xs) [] (suc i) d new e l same = absurd (let is = e in cc)
one_more h (x ∷ xs) (v ∷ vs) (suc i) d new e l same =
    let rest : xs ≡ front h i vs = let is = e in cc in
    let first : x ≡ h v = let is = e in cc in
    ap₂ (λ y ys. y ∷ ys) first (one_more h xs vs i d new rest (omega arith) same)
