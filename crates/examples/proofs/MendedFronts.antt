-- Events of which the first so many are mended.
use Rattle.std.proofs.Common.{◌≡◌, ℕ, zero, suc, ◌<◌, ◌≤◌, List, [], ◌∷◌, length, map, slice_index_or, slice_set, refl, ap, ap₂, arith}
use Rattle.tocmark_event.specs.View.{EventView}
use Rattle.examples.specs.Levels.{Before, mended, mended_event, with_heading}

-- the first so many events mended, and the others as they are
abbrev pub front : Before → ℕ → List EventView → List EventView
front before zero es = es
front before (suc n) [] = []
front before (suc n) (e ∷ es) = mended_event before e ∷ front (with_heading before e) n es

-- the headings before the event with this number
abbrev pub before_at : Before → ℕ → List EventView → Before
before_at before zero es = before
before_at before (suc n) [] = before
before_at before (suc n) (e ∷ es) = before_at (with_heading before e) n es

pub all-mended : (before : Before) (n : ℕ) (es : List EventView) → length es ≤ n → front before n es ≡ mended before es
all-mended before zero [] l = refl
all-mended before zero (e ∷ es) l = absurd (omega arith)
all-mended before (suc n) [] l = refl
all-mended before (suc n) (e ∷ es) l = ap (λ ys. mended_event before e ∷ ys) (all-mended (with_heading before e) n es (omega arith))

pub one-more : {A : Type 0} (f : A → EventView) (xs : List A) (before : Before) (vs : List EventView) (i : ℕ) (d new : A) → map f xs ≡ front before i vs → i < length xs → f new ≡ mended_event (before_at before i vs) (f (slice_index_or xs i d)) → map f (slice_set xs i new) ≡ front before (suc i) vs
one-more f [] before vs i d new e l same = absurd (omega arith)
one-more f (x ∷ xs) before [] zero d new e l same = absurd (let is = e in cc)
one-more f (x ∷ xs) before (v ∷ vs) zero d new e l same = let is = e in let one = same in cc
one-more f (x ∷ xs) before [] (suc i) d new e l same = absurd (let is = e in cc)
one-more f (x ∷ xs) before (v ∷ vs) (suc i) d new e l same =
    let rest : map f xs ≡ front (with_heading before v) i vs = let is = e in cc in
    let first : f x ≡ mended_event before v = let is = e in cc in
    ap₂ (λ y ys. y ∷ ys) first (one-more f xs (with_heading before v) vs i d new rest (omega arith) same)

pub one-more-before : {A : Type 0} (f : A → EventView) (xs : List A) (before : Before) (vs : List EventView) (i : ℕ) (d : A) → map f xs ≡ front before i vs → i < length xs → before_at before (suc i) vs ≡ with_heading (before_at before i vs) (f (slice_index_or xs i d))
one-more-before f [] before vs i d e l = absurd (omega arith)
one-more-before f (x ∷ xs) before [] zero d e l = absurd (let is = e in cc)
one-more-before f (x ∷ xs) before (v ∷ vs) zero d e l = let is = e in cc
one-more-before f (x ∷ xs) before [] (suc i) d e l = absurd (let is = e in cc)
one-more-before f (x ∷ xs) before (v ∷ vs) (suc i) d e l =
    let rest : map f xs ≡ front (with_heading before v) i vs = let is = e in cc in
    one-more-before f xs (with_heading before v) vs i d rest (omega arith)
