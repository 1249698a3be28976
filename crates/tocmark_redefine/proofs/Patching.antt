-- A text is written from its front, patch by patch.
use Rattle.std.proofs.Common.{◌≡◌, sym, ◌∙◌, ap, subst, ℕ, ◌<◌, ◌≤◌, ◌+◌, ◌-◌, List, ◌∷◌, ◌++◌, length, take, drop, get_or, string_bytes, append_assoc}
use Rattle.std.specs.List.{slice_range}
use Rattle.std.proofs.lemmas.List.{drop_more, drop_all, take_rest}
use Rattle.tocmark_redefine.specs.Redefined.{AreApart, patched_from}
use Rattle.tocmark_rewrite.specs.declared.patch.Patch.{Patch}

-- one more patch
module _ (text : List ℕ) (patches : List Patch) (i at : ℕ) (p : Patch) (within : i < length patches) (is : p ≡ get_or patches i p) where
  split : drop i patches ≡ p ∷ drop (i + 1) patches
  split = drop_more patches i p within ∙ ap (λ (x : Patch). x ∷ drop (i + 1) patches) (sym is)

  pub one_patch : (made kept new whole : List ℕ) → kept ≡ slice_range text at p.from → new ≡ (made ++ kept) ++ string_bytes p.text → made ++ patched_from text at (drop i patches) ≡ whole → new ++ patched_from text p.to (drop (i + 1) patches) ≡ whole
  one_patch made kept new whole k n h =
      let rest : List ℕ = patched_from text p.to (drop (i + 1) patches) in
      ap (λ (xs : List ℕ). xs ++ rest) n
      ∙ append_assoc (made ++ kept) (string_bytes p.text) rest
      ∙ append_assoc made kept (string_bytes p.text ++ rest)
      ∙ ap (λ (xs : List ℕ). made ++ (xs ++ (string_bytes p.text ++ rest))) k
      ∙ sym (ap (λ (ps : List Patch). made ++ patched_from text at ps) split)
      ∙ h

  pub one_apart : at ≤ p.from → (AreApart at (length text) (drop i patches) → AreApart 0 (length text) patches) → AreApart p.to (length text) (drop (i + 1) patches) → AreApart 0 (length text) patches
  one_apart low h rest = h (subst (λ (ps : List Patch). AreApart at (length text) ps) (sym split) (low, rest))

-- and what is after the last one
pub no_patch : (text : List ℕ) (patches : List Patch) (i at : ℕ) (made kept new whole : List ℕ) → length patches ≤ i → kept ≡ take (length text - at) (drop at text) → new ≡ made ++ kept → made ++ patched_from text at (drop i patches) ≡ whole → new ≡ whole
no_patch text patches i at made kept new whole l k n h =
    n
    ∙ ap (λ (xs : List ℕ). made ++ xs) (k ∙ take_rest text at)
    ∙ sym (ap (λ (ps : List Patch). made ++ patched_from text at ps) (drop_all i patches l))
    ∙ h

pub none_apart : (text : List ℕ) (patches : List Patch) (i at : ℕ) → length patches ≤ i → at ≤ length text → (AreApart at (length text) (drop i patches) → AreApart 0 (length text) patches) → AreApart 0 (length text) patches
none_apart text patches i at l within h =
    h (subst (λ (ps : List Patch). AreApart at (length text) ps) (sym (drop_all i patches l)) within)
