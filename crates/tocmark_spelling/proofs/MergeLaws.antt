-- Merging what is merged changes nothing.
use Rattle.std.proofs.Common.{◌≡◌, ℕ, Bool, true, false, List, [], ◌∷◌, refl, ap, ◌∙◌}
use Rattle.tocmark_event.specs.View.{EventView, Leaf, Text}
use Rattle.tocmark_event.specs.Merged.{after_text, merged}

abbrev is_text : EventView → Bool
is_text (Leaf (Text t)) = true
is_text e = false

abbrev begins_with_text : List EventView → Bool
begins_with_text [] = false
begins_with_text (e ∷ es) = is_text e

-- no text is just after a text
abbrev IsApart : List EventView → Type 0
IsApart [] = Unit {0}
IsApart (e ∷ es) = (is_text e ≡ true → begins_with_text es ≡ false) × IsApart es

after_text-apart : (t : List ℕ) (es : List EventView) → begins_with_text es ≡ false → after_text t es ≡ Leaf (Text t) ∷ es
after_text-apart t [] h = refl
after_text-apart t (Leaf (Text u) ∷ es) h = cc
after_text-apart t (e ∷ es) h = refl

apart-after_text : (t : List ℕ) (es : List EventView) → IsApart es → IsApart (after_text t es)
apart-after_text t [] h = (λ _. refl, tt)
apart-after_text t (Leaf (Text u) ∷ es) h = (λ _. h.0 refl, h.1)
apart-after_text t (e ∷ es) h = (λ _. refl, h)

apart-merged : (es : List EventView) → IsApart (merged es)
apart-merged [] = tt
apart-merged (Leaf (Text t) ∷ es) = apart-after_text t (merged es) (apart-merged es)
apart-merged (e ∷ es) = (λ x. absurd cc, apart-merged es)

merged-apart : (es : List EventView) → IsApart es → merged es ≡ es
merged-apart [] h = refl
merged-apart (Leaf (Text t) ∷ es) h = ap (after_text t) (merged-apart es h.1) ∙ after_text-apart t es (h.0 refl)
merged-apart (e ∷ es) h = ap (λ x. e ∷ x) (merged-apart es h.1)

pub merged-merged : (es : List EventView) → merged (merged es) ≡ merged es
merged-merged es = merged-apart (merged es) (apart-merged es)
