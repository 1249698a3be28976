-- Lists that are compared part by part.
use Rattle.std.proofs.Common.{◌≡◌, ◌∙◌, sym, ap, refl, ℕ, suc, ◌+◌, ◌<◌, Bool, true, false, ◌&&◌, List, [], ◌∷◌, ◌++◌, Option, length, map, flat_map, drop, get_or, bytes_eq, arith, inl, inr}
use Rattle.std.specs.Prelude.{◌≢◌}
use Rattle.std.specs.Cmp.Lexicographic.{pointwise, unequal}
use Rattle.std.proofs.lemmas.Bool.{false≢true}
use Rattle.std.proofs.lemmas.Bool.Decides.{eqb_tells}
use Rattle.std.proofs.lemmas.List.{at_drop_more}
use Rattle.tocmark_spelling.specs.SameEvents.{number, optional, attribute_key}

and-false : (b : Bool) → (b && false) ≡ false
and-false true = refl
and-false false = refl

and-assoc : (b c d : Bool) → ((b && c) && d) ≡ (b && (c && d))
and-assoc true c d = refl
and-assoc false c d = refl

-- lists of attributes of different lengths differ
pub attributes-apart : (xs ys : List (List ℕ × Option (List ℕ))) → length xs ≢ length ys → pointwise bytes_eq (flat_map attribute_key xs) (flat_map attribute_key ys) ≡ false
attributes-apart [] [] n = absurd (n refl)
attributes-apart [] (b ∷ ys) n = refl
attributes-apart (a ∷ xs) [] n = refl
attributes-apart (a ∷ xs) (b ∷ ys) n =
    let rest = attributes-apart xs ys (λ e. n (ap suc e)) in
    let s = bytes_eq a.0 b.0 in
    let t = bytes_eq (optional a.1) (optional b.1) in
    ap (λ r. s && (t && r)) rest ∙ ap (λ r. s && r) (and-false t) ∙ and-false s

-- parts of equal lengths are compared one after the other
append-same : {A : Type 0} (E : A → A → Bool) (xs ys us vs : List A) → length xs ≡ length ys → pointwise E (xs ++ us) (ys ++ vs) ≡ (pointwise E xs ys && pointwise E us vs)
append-same E [] [] us vs e = refl
append-same E [] (b ∷ ys) us vs e = absurd (omega arith)
append-same E (a ∷ xs) [] us vs e = absurd (omega arith)
append-same E (a ∷ xs) (b ∷ ys) us vs e =
    ap (λ t. E a b && t) (append-same E xs ys us vs (omega arith)) ∙ sym (and-assoc (E a b) (pointwise E xs ys) (pointwise E us vs))

-- the names of two headings, before which the number of the classes is
pub names-same : (xs ys us vs : List (List ℕ)) → pointwise bytes_eq (number (length xs) ∷ xs ++ us) (number (length ys) ∷ ys ++ vs) ≡ (pointwise bytes_eq xs ys && pointwise bytes_eq us vs)
names-same xs ys us vs = elim (eqb_tells (length xs) (length ys)) [
  | inl t ↦ ap (λ b. (b && true) && pointwise bytes_eq (xs ++ us) (ys ++ vs)) t.0 ∙ append-same bytes_eq xs ys us vs t.1
  | inr f ↦ ap (λ b. (b && true) && pointwise bytes_eq (xs ++ us) (ys ++ vs)) f.0 ∙ sym (ap (λ b. b && pointwise bytes_eq us vs) (unequal bytes_eq xs ys f.1))
]

-- lists seen from a place on: the items there, and those after them
pub same-at : {A B X Y : Type 0} (E : X → Y → Bool) (f : A → X) (g : B → Y) (xs : List A) (ys : List B) (i : ℕ) (x : A) (y : B) → i < length xs → i < length ys → x ≡ get_or xs i x → y ≡ get_or ys i y → pointwise E (map f (drop i xs)) (map g (drop i ys)) ≡ (E (f x) (g y) && pointwise E (map f (drop (i + 1) xs)) (map g (drop (i + 1) ys)))
same-at E f g xs ys i x y h k p q =
    let there = at_drop_more (map f) xs i x h ∙ ap (λ z. f z ∷ map f (drop (i + 1) xs)) (sym p) in
    let other = at_drop_more (map g) ys i y k ∙ ap (λ z. g z ∷ map g (drop (i + 1) ys)) (sym q) in
    λ j. pointwise E (there j) (other j)

-- two tests that hold, before a third
pub both-hold : (a b c : Bool) → a ≡ true → b ≡ true → ((a && true) && (b && c)) ≡ c
both-hold true true c p q = refl
both-hold true false c p q = absurd (false≢true q)
both-hold false b c p q = absurd (false≢true p)
