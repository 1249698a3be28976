-- How a loop that copies each element goes on, and how it ends.
use Rattle.std.proofs.Common.{◌≡◌, ℕ, List, [], ◌∷◌, ◌++◌, ap, sym, map, take, ◌+◌, ◌<◌, ◌≤◌, length, get_or, ◌∙◌}
use Rattle.std.proofs.lemmas.List.{take_all, take_more, map-append}

module _ {A B V : Type 0} (made : B → V) (bytes : A → V) (copies : List B) (items : List A) (i : ℕ) (so_far : map made copies ≡ map bytes (take i items)) where
  -- one more element
  pub copied-more : (more : List B) (copy : B) (item : A) → i < length items → item ≡ get_or items i item → more ≡ copies ++ copy ∷ [] → made copy ≡ bytes item → map made more ≡ map bytes (take (i + 1) items)
  copied-more more copy item lt at pushed same =
      ap (map made) pushed
      ∙ (map-append made copies (copy ∷ [])
      ∙ (ap (λ vs. vs ++ made copy ∷ []) so_far
      ∙ (ap (λ v. map bytes (take i items) ++ v ∷ []) (same ∙ ap bytes at)
      ∙ (sym (map-append bytes (take i items) (get_or items i item ∷ []))
      ∙ ap (map bytes) (sym (take_more items i item lt))))))

  -- past the last one
  pub copied-all : length items ≤ i → map made copies ≡ map bytes items
  copied-all past = so_far ∙ ap (map bytes) (take_all i items past)
