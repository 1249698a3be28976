-- Labels in a list.
use Rattle.std.proofs.Common.{rules, ◌≡◌, ap, refl, bytes_eq, ℕ, Bool, true, false, ◌||◌, List, [], ◌∷◌, map}
use mathlib.Core.Bool.{cond}
use Rattle.std.proofs.lemmas.Slice.Eq.{bytes_eq-Decides}
use Rattle.std.specs.List.{list_any}

pub any-map : {A B : Type 0} (f : B → Bool) (g : A → B) (xs : List A) → list_any f (map g xs) ≡ list_any (λ x. f (g x)) xs
any-map f g [] = refl
any-map f g (x ∷ xs) = ap (λ b. f (g x) || b) (any-map f g xs)

pub or-cond : (c x : Bool) → cond c true x ≡ (x || c)
or-cond true true = refl
or-cond true false = refl
or-cond false true = refl
or-cond false false = refl

pub either : (a b : Bool) (P : Type 0) → (a || b) ≡ true → (a ≡ true → P) → (b ≡ true → P) → P
either true b P e l r = l refl
either false b P e l r = r e

pub same-bytes : (xs ys : List ℕ) → bytes_eq xs ys ≡ true → xs ≡ ys
same-bytes xs ys e = search (rules, bytes_eq-Decides)

pub is-itself : (xs ys : List ℕ) → xs ≡ ys → bytes_eq xs ys ≡ true
is-itself xs ys e = search (rules, bytes_eq-Decides)
