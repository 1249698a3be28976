-- A list whose first items are changed.
use Rattle.std.proofs.Common.{◌≡◌, ◌∙◌, Bool, ℕ, zero, suc, ◌<◌, ◌≤◌, List, [], ◌∷◌, length, map, slice_index_or, slice_set, refl, ap, ap₂, arith}
use Rattle.tocmark_event.specs.View.{EventView}
use Rattle.tocmark_rewrite.specs.Edits.{is_open_behind, joined_event, joined_lines}

-- the first so many items changed, and the others as they are
abbrev pub front : {A : Type 0} → (A → A) → ℕ → List A → List A
front h zero xs = xs
front h (suc n) [] = []
front h (suc n) (x ∷ xs) = h x ∷ front h n xs

pub all-changed : {A : Type 0} (h : A → A) (n : ℕ) (xs : List A) → length xs ≤ n → front h n xs ≡ map h xs
all-changed h zero [] l = refl
all-changed h zero (x ∷ xs) l = absurd (omega arith)
all-changed h (suc n) [] l = refl
all-changed h (suc n) (x ∷ xs) l = ap (λ ys. h x ∷ ys) (all-changed h n xs (omega arith))

pub one-more : {A B : Type 0} (f : A → B) (h : B → B) (xs : List A) (vs : List B) (i : ℕ) (d new : A) → map f xs ≡ front h i vs → i < length xs → f new ≡ h (f (slice_index_or xs i d)) → map f (slice_set xs i new) ≡ front h (suc i) vs
one-more f h [] vs i d new e l same = absurd (omega arith)
one-more f h (x ∷ xs) [] zero d new e l same = absurd (let is = e in cc)
one-more f h (x ∷ xs) (v ∷ vs) zero d new e l same = let is = e in let one = same in cc
one-more f h (x ∷ xs) [] (suc i) d new e l same = absurd (let is = e in cc)
one-more f h (x ∷ xs) (v ∷ vs) (suc i) d new e l same =
    let rest : map f xs ≡ front h i vs = let is = e in cc in
    let first : f x ≡ h v = let is = e in cc in
    ap₂ (λ y ys. y ∷ ys) first (one-more f h xs vs i d new rest (omega arith) same)

-- the first so many events with a space in place of each line break in a heading on one line, and the others as they are
abbrev pub partly : Bool → ℕ → List EventView → List EventView
partly b zero es = es
partly b (suc n) [] = []
partly b (suc n) (e ∷ es) = joined_event b e ∷ partly (is_open_behind b e) n es

-- whether a heading on one line is open after so many events
abbrev pub open_at : Bool → ℕ → List EventView → Bool
open_at b zero es = b
open_at b (suc n) [] = b
open_at b (suc n) (e ∷ es) = open_at (is_open_behind b e) n es

pub all-joined : (b : Bool) (n : ℕ) (es : List EventView) → length es ≤ n → partly b n es ≡ joined_lines b es
all-joined b zero [] l = refl
all-joined b zero (e ∷ es) l = absurd (omega arith)
all-joined b (suc n) [] l = refl
all-joined b (suc n) (e ∷ es) l = ap (λ ys. joined_event b e ∷ ys) (all-joined (is_open_behind b e) n es (omega arith))

joined-at : {A : Type 0} (f : A → EventView) (b : Bool) (xs : List A) (es : List EventView) (i : ℕ) (d new : A) → map f xs ≡ partly b i es → i < length xs → f new ≡ joined_event (open_at b i es) (f (slice_index_or xs i d)) → map f (slice_set xs i new) ≡ partly b (suc i) es
joined-at f b [] es i d new e l same = absurd (omega arith)
joined-at f b (x ∷ xs) [] zero d new e l same = absurd (let is = e in cc)
joined-at f b (x ∷ xs) (v ∷ vs) zero d new e l same =
    let rest : map f xs ≡ vs = let is = e in cc in
    let first : f x ≡ v = let is = e in cc in
    ap₂ (λ y ys. y ∷ ys) (same ∙ ap (joined_event b) first) rest
joined-at f b (x ∷ xs) [] (suc i) d new e l same = absurd (let is = e in cc)
joined-at f b (x ∷ xs) (v ∷ vs) (suc i) d new e l same =
    let rest : map f xs ≡ partly (is_open_behind b v) i vs = let is = e in cc in
    let first : f x ≡ joined_event b v = let is = e in cc in
    ap₂ (λ y ys. y ∷ ys) first (joined-at f (is_open_behind b v) xs vs i d new rest (omega arith) same)

pub one-joined : {A : Type 0} (f : A → EventView) (b : Bool) (xs : List A) (es : List EventView) (i : ℕ) (d new : A) (is_open : Bool) → map f xs ≡ partly b i es → i < length xs → is_open ≡ open_at b i es → f new ≡ joined_event is_open (f (slice_index_or xs i d)) → map f (slice_set xs i new) ≡ partly b (suc i) es
one-joined f b xs es i d new is_open e l at same =
    joined-at f b xs es i d new e l (same ∙ ap (λ (o : Bool). joined_event o (f (slice_index_or xs i d))) at)

open-at : {A : Type 0} (f : A → EventView) (b : Bool) (xs : List A) (es : List EventView) (i : ℕ) (d : A) → map f xs ≡ partly b i es → i < length xs → is_open_behind (open_at b i es) (f (slice_index_or xs i d)) ≡ open_at b (suc i) es
open-at f b [] es i d e l = absurd (omega arith)
open-at f b (x ∷ xs) [] zero d e l = absurd (let is = e in cc)
open-at f b (x ∷ xs) (v ∷ vs) zero d e l =
    let first : f x ≡ v = let is = e in cc in ap (is_open_behind b) first
open-at f b (x ∷ xs) [] (suc i) d e l = absurd (let is = e in cc)
open-at f b (x ∷ xs) (v ∷ vs) (suc i) d e l =
    let rest : map f xs ≡ partly (is_open_behind b v) i vs = let is = e in cc in
    open-at f (is_open_behind b v) xs vs i d rest (omega arith)

pub open-next : {A : Type 0} (f : A → EventView) (b : Bool) (xs : List A) (es : List EventView) (i : ℕ) (d : A) (is_open opens : Bool) → map f xs ≡ partly b i es → i < length xs → is_open ≡ open_at b i es → opens ≡ is_open_behind is_open (f (slice_index_or xs i d)) → opens ≡ open_at b (suc i) es
open-next f b xs es i d is_open opens e l at same =
    same ∙ ap (λ (o : Bool). is_open_behind o (f (slice_index_or xs i d))) at ∙ open-at f b xs es i d e l
