-- Bytes of lists, element by element.
use Rattle.std.proofs.Common.{◌≡◌, ℕ, flat_map, Result, ◌+◌, ◌<◌, ◌≤◌, List, [], ◌∷◌, ◌++◌, length, get_or, drop, ap, sym, ◌∙◌, append_assoc, append-nil, refl}
use Rattle.std.specs.Prelude.{OnOk}
use Rattle.std.proofs.lemmas.List.{drop_more, drop_all, get_or_default}
use Rattle.std.proofs.lemmas.Result.{on_ok_weaker}
use Rattle.tocmark_event.specs.declared.event.Alignment.{Alignment}
use Rattle.tocmark_json.specs.Marshal.{alignment_bytes}

-- what is written, and the bytes of what is left, are what was there and the bytes of all
abbrev pub Comes : List ℕ → List ℕ → List ℕ → List ℕ → Type 0
Comes start whole a rest = a ++ rest ≡ start ++ whole

module _ {A : Type 0} (bytes_of : A → List ℕ) (made : List A → List ℕ) (one : (x : A) (ys : List A) → made (x ∷ ys) ≡ bytes_of x ++ made ys) (none : made [] ≡ []) (xs : List A) (i : ℕ) (start a b : List ℕ) (g : Comes start (made xs) a (made (drop i xs))) where
  -- one more element
  pub more_come : (x : A) → i < length xs → x ≡ get_or xs i x → b ≡ a ++ bytes_of x → Comes start (made xs) b (made (drop (i + 1) xs))
  more_come x lt at h =
      let rest = drop (i + 1) xs in
      let here : made (drop i xs) ≡ bytes_of x ++ made rest = ap made (drop_more xs i x lt ∙ ap (λ y. y ∷ rest) (sym at)) ∙ one x rest in
      ap (λ l. l ++ made rest) h ∙ append_assoc a (bytes_of x) (made rest) ∙ ap (λ l. a ++ l) (sym here) ∙ g

  -- past the last one, with what was written first
  pub all_come : (before opening : List ℕ) → length xs ≤ i → start ≡ before ++ opening → a ≡ before ++ (opening ++ made xs)
  all_come before opening past opens =
      sym (append-nil a) ∙ ap (λ l. a ++ l) (sym none ∙ ap made (sym (drop_all i xs past))) ∙ g
      ∙ ap (λ l. l ++ made xs) opens ∙ append_assoc before opening (made xs)

-- one more alignment of a list that is read by copying
module _ (xs : List Alignment) (i : ℕ) (start a b : List ℕ) (d : Alignment) (g : Comes start (flat_map alignment_bytes xs) a (flat_map alignment_bytes (drop i xs))) (lt : i < length xs) where
  pub alignment_comes_as : (x : Alignment) → x ≡ get_or xs i d → b ≡ a ++ alignment_bytes x → Comes start (flat_map alignment_bytes xs) b (flat_map alignment_bytes (drop (i + 1) xs))
  alignment_comes_as x at h = more_come alignment_bytes (λ ys. flat_map alignment_bytes ys) (λ y ys. refl) refl xs i start a b g x lt (at ∙ get_or_default xs i d x lt) h

  pub alignment_comes : b ≡ a ++ alignment_bytes (get_or xs i d) → Comes start (flat_map alignment_bytes xs) b (flat_map alignment_bytes (drop (i + 1) xs))
  alignment_comes h = alignment_comes_as (get_or xs i d) refl h

-- bytes after others
pub then_come : (old a b w k : List ℕ) → a ≡ old ++ w → b ≡ a ++ k → b ≡ old ++ (w ++ k)
then_come old a b w k h more = more ∙ ap (λ l. l ++ k) h ∙ append_assoc old w k

-- a key and its value after others
pub member_comes : (old a b c w k v : List ℕ) → a ≡ old ++ w → b ≡ a ++ k → c ≡ b ++ v → c ≡ old ++ (w ++ (k ++ v))
member_comes old a b c w k v h key value =
    then_come old b c (w ++ k) v (then_come old a b w k h key) value ∙ ap (λ l. old ++ l) (append_assoc w k v)

-- four keys and values in a dict
pub four_come : {E : Type 0} (r : Result (Unit {0}) E) (old a b₁ a₁ b₂ a₂ b₃ a₃ b₄ a₄ new k₁ v₁ k₂ v₂ k₃ v₃ k₄ v₄ : List ℕ) → a ≡ old ++ 123 ∷ [] → b₁ ≡ a ++ k₁ → a₁ ≡ b₁ ++ v₁ → b₂ ≡ a₁ ++ k₂ → a₂ ≡ b₂ ++ v₂ → b₃ ≡ a₂ ++ k₃ → a₃ ≡ b₃ ++ v₃ → b₄ ≡ a₃ ++ k₄ → a₄ ≡ b₄ ++ v₄ → OnOk r (new ≡ a₄ ++ 48 ∷ []) → OnOk r (new ≡ old ++ (((((123 ∷ [] ++ (k₁ ++ v₁)) ++ (k₂ ++ v₂)) ++ (k₃ ++ v₃)) ++ (k₄ ++ v₄)) ++ 48 ∷ []))
four_come r old a b₁ a₁ b₂ a₂ b₃ a₃ b₄ a₄ new k₁ v₁ k₂ v₂ k₃ v₃ k₄ v₄ h p₁ q₁ p₂ q₂ p₃ q₃ p₄ q₄ last =
    let w₁ = member_comes old a b₁ a₁ (123 ∷ []) k₁ v₁ h p₁ q₁ in
    let w₂ = member_comes old a₁ b₂ a₂ (123 ∷ [] ++ (k₁ ++ v₁)) k₂ v₂ w₁ p₂ q₂ in
    let w₃ = member_comes old a₂ b₃ a₃ ((123 ∷ [] ++ (k₁ ++ v₁)) ++ (k₂ ++ v₂)) k₃ v₃ w₂ p₃ q₃ in
    let w₄ = member_comes old a₃ b₄ a₄ (((123 ∷ [] ++ (k₁ ++ v₁)) ++ (k₂ ++ v₂)) ++ (k₃ ++ v₃)) k₄ v₄ w₃ p₄ q₄ in
    on_ok_weaker r (λ fact. then_come old a₄ new ((((123 ∷ [] ++ (k₁ ++ v₁)) ++ (k₂ ++ v₂)) ++ (k₃ ++ v₃)) ++ (k₄ ++ v₄)) (48 ∷ []) w₄ fact) last

-- a variant's beginning, its content and its end
pub tagged_comes : {E : Type 0} (r : Result (Unit {0}) E) (old a b new opening content : List ℕ) → a ≡ old ++ opening → b ≡ a ++ content → OnOk r (new ≡ b ++ 48 ∷ []) → OnOk r (new ≡ old ++ (opening ++ (content ++ 48 ∷ [])))
tagged_comes r old a b new opening content h more last =
    on_ok_weaker r (λ fact. fact ∙ ap (λ l. l ++ 48 ∷ []) (then_come old a b opening content h more) ∙ append_assoc old (opening ++ content) (48 ∷ []) ∙ ap (λ l. old ++ l) (append_assoc opening content (48 ∷ []))) last
