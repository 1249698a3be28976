-- An outline that grows.
use Rattle.std.proofs.Common.{◌≡◌, ◌∙◌, sym, ap, ap₂, refl, ℕ, List, [], ◌∷◌, ◌++◌, append-nil, append_assoc, map, Option, Some, None}
use Rattle.std.proofs.lemmas.List.{map-append}
use Rattle.tocmark_event.specs.View.{EventView}
use Rattle.tocmark_compare.specs.Digest.{marked}
use Rattle.tocmark_judge.specs.Shape.{Outlines, outlined, shape}
use Rattle.tocmark_judge.specs.declared.shape.Outline.{Outline}

-- one more event
pub shape-more : (xs : List EventView) (e : EventView) → shape (xs ++ e ∷ []) ≡ shape xs ++ outlined e
shape-more [] e = append-nil (outlined e)
shape-more (x ∷ xs) e =
    ap (λ es. outlined x ++ es) (shape-more xs e) ∙ sym (append_assoc (outlined x) (shape xs) (outlined e))

-- one that says something of blocks
pub outlines-more : (old new : Outline) (m : ℕ) (e : EventView) → new.marks.items ≡ old.marks.items ++ m ∷ [] → marked m ∷ [] ≡ map Some (outlined e) → (before : List EventView) → Outlines old before → Outlines new (before ++ e ∷ [])
outlines-more old new m e longer one before h =
    ap (map marked) longer
    ∙ map-append marked old.marks.items (m ∷ [])
    ∙ ap₂ (λ xs ys. xs ++ ys) h one
    ∙ sym (map-append Some (shape before) (outlined e))
    ∙ ap (map Some) (sym (shape-more before e))

-- and one that doesn't
pub outlines-still : (old new : Outline) (e : EventView) → new.marks.items ≡ old.marks.items → outlined e ≡ [] → (before : List EventView) → Outlines old before → Outlines new (before ++ e ∷ [])
outlines-still old new e still none before h =
    ap (map marked) still
    ∙ h
    ∙ ap (map Some) (sym (shape-more before e ∙ ap (λ es. shape before ++ es) none ∙ append-nil (shape before)))

-- the values among some
abbrev values : {A : Type 0} → List (Option A) → List A
values [] = []
values (Some x ∷ xs) = x ∷ values xs
values (None ∷ xs) = values xs

all-values : {A : Type 0} (xs : List A) → values (map Some xs) ≡ xs
all-values [] = refl
all-values (x ∷ xs) = ap (λ ys. x ∷ ys) (all-values xs)

pub same-values : {A : Type 0} (xs ys : List A) → map Some xs ≡ map Some ys → xs ≡ ys
same-values xs ys h = sym (all-values xs) ∙ ap values h ∙ all-values ys
