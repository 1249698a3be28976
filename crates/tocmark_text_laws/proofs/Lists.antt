-- How lists are looked up and cut after a map.
use Rattle.std.proofs.Common.{◌≡◌, ℕ, zero, suc, ◌+◌, ◌-◌, Bool, true, false, if◌then◌else◌, List, [], ◌∷◌, map, take, drop, reverse, refl, ap, ◌∙◌}
use Rattle.std.specs.Prelude.{filter, take_while, slice_set, slice_range, replicate, Option, Some, None}
use Rattle.std.specs.Option.{option_map, option_map_or}
use Rattle.std.specs.List.{prefix_len}
use mathlib.Core.List.{reverse_aux}
use Rattle.std.proofs.lemmas.List.{drop-map, take-map}

front_map : {A B : Type 0} (f : A → B) (p : B → Bool) (xs : List A) → prefix_len p (map f xs) ≡ prefix_len (λ x. p (f x)) xs
front_map f p [] = refl
front_map f p (x ∷ xs) = ap (λ n. if p (f x) then 1 + n else 0) (front_map f p xs)

pub while_map : {A B : Type 0} (f : A → B) (p : B → Bool) (xs : List A) → take_while p (map f xs) ≡ map f (take_while (λ x. p (f x)) xs)
while_map f p xs = ap (λ n. take n (map f xs)) (front_map f p xs) ∙ take-map f (prefix_len (λ x. p (f x)) xs) xs

pub filter_map_on : {A B : Type 0} (f : A → B) (p : B → Bool) (xs : List A) → filter p (map f xs) ≡ map f (filter (λ x. p (f x)) xs)
filter_map_on f p [] = refl
filter_map_on f p (x ∷ xs) = by (p (f x)) (filter_map_on f p xs)
  where
    by : (k : Bool) → filter p (map f xs) ≡ map f (filter (λ x. p (f x)) xs) → (if k then f x ∷ filter p (map f xs) else filter p (map f xs)) ≡ map f (if k then x ∷ filter (λ x. p (f x)) xs else filter (λ x. p (f x)) xs)
    by true e = ap (λ ys. f x ∷ ys) e
    by false e = e

onto_map : {A B : Type 0} (f : A → B) (xs ys : List A) → reverse_aux (map f xs) (map f ys) ≡ map f (reverse_aux xs ys)
onto_map f [] ys = refl
onto_map f (x ∷ xs) ys = onto_map f xs (x ∷ ys)

pub reverse_map : {A B : Type 0} (f : A → B) (xs : List A) → reverse (map f xs) ≡ map f (reverse xs)
reverse_map f xs = onto_map f xs []

pub range_map : {A B : Type 0} (f : A → B) (xs : List A) (from to : ℕ) → slice_range (map f xs) from to ≡ map f (slice_range xs from to)
range_map f xs from to = ap (take (to - from)) (drop-map f from xs) ∙ take-map f (to - from) (drop from xs)

pub set_map : {A B : Type 0} (f : A → B) (xs : List A) (i : ℕ) (x : A) → slice_set (map f xs) i (f x) ≡ map f (slice_set xs i x)
set_map f [] i x = refl
set_map f (y ∷ ys) zero x = refl
set_map f (y ∷ ys) (suc i) x = ap (λ zs. f y ∷ zs) (set_map f ys i x)

pub copies_map : {A B : Type 0} (f : A → B) (n : ℕ) (x : A) → map f (replicate n x) ≡ replicate n (f x)
copies_map f zero x = refl
copies_map f (suc n) x = ap (λ xs. f x ∷ xs) (copies_map f n x)

pub map_or_map : {A B C : Type 0} (f : A → B) (g : B → C) (d : C) (o : Option A) → option_map_or g (option_map f o) d ≡ option_map_or (λ x. g (f x)) o d
map_or_map f g d None = refl
map_or_map f g d (Some x) = refl
