-- A text that is in another.
use Rattle.std.proofs.Common.{◌≡◌, ℕ, List, [], ◌∷◌, ◌++◌, length, drop, refl, ap, Decides, inl, inr, ◌⊎◌}
use Rattle.std.specs.Str.Iter.{HasSubslice}
use Rattle.std.proofs.lemmas.Bool.Decides.{Decides-eqb, Decides-like, Decides-or}
use Rattle.std.proofs.lemmas.Slice.Eq.{starts_is}
use Rattle.tocmark_spelling.specs.Words.{begins_with, holds}

-- the text begins with this piece
abbrev Begins : List ℕ → List ℕ → Type 0
Begins s n = (rest : List ℕ) × (s ≡ n ++ rest)

begins-is : (s n : List ℕ) → Decides (begins_with s n) (Begins s n)
begins-is s n = let k = starts_is Decides-eqb s n (begins_with s n) refl in (λ e. (drop (length n) s, k.0 e), λ h. k.1 h.0 h.1)

at-end : (n : List ℕ) → HasSubslice [] n → Begins [] n
at-end n ([], back, e) = (back, e)
at-end n (x ∷ front, back, e) = absurd (cc)

here-or-later : (b : ℕ) (bs n : List ℕ) → Begins (b ∷ bs) n ⊎ HasSubslice bs n → HasSubslice (b ∷ bs) n
here-or-later b bs n (inl h) = ([], h.0, h.1)
here-or-later b bs n (inr h) = (b ∷ h.0, h.1, ap (λ x. b ∷ x) h.2)

which : (b : ℕ) (bs n : List ℕ) → HasSubslice (b ∷ bs) n → Begins (b ∷ bs) n ⊎ HasSubslice bs n
which b bs n ([], back, e) = inl (back, e)
which b bs n (x ∷ front, back, e) = inr (front, back, ap (drop 1) e)

pub holds-is : (s n : List ℕ) → Decides (holds s n) (HasSubslice s n)
holds-is [] n = Decides-like (begins_with [] n) (λ h. ([], h.0, h.1)) (at-end n) (begins-is [] n)
holds-is (b ∷ bs) n =
    Decides-like (holds (b ∷ bs) n) (here-or-later b bs n) (which b bs n)
    (Decides-or (begins_with (b ∷ bs) n) (holds bs n) (begins-is (b ∷ bs) n) (holds-is bs n))
