-- Commas between lines.
use Rattle.std.proofs.Common.{◌≡◌, ◌==◌, ℕ, List, [], ◌∷◌, ◌++◌, Bool, true, false, refl, ap, append-nil, append_assoc, drop, get_or, length, sym, ◌+◌, ◌<◌, ◌≤◌, ◌∙◌}
use Rattle.std.proofs.lemmas.List.{drop_all, drop_more}
use Rattle.tocmark_documents.specs.Lines.{with_commas}

more : (b : Bool) (x : ℕ) (rest : List ℕ) → with_commas b (x ∷ rest) ≡ with_commas b (x ∷ []) ++ with_commas (x == 10) rest
more true x rest = refl
more false x rest = refl

-- one more byte
pub byte_added : (made new bytes all : List ℕ) (b : Bool) (x i : ℕ) → i < length bytes → x ≡ get_or bytes i x → new ≡ made ++ with_commas b (x ∷ []) → made ++ with_commas b (drop i bytes) ≡ all → new ++ with_commas (x == 10) (drop (i + 1) bytes) ≡ all
byte_added made new bytes all b x i lt at is so_far =
    let rest = drop (i + 1) bytes in
    let here : drop i bytes ≡ x ∷ rest = drop_more bytes i x lt ∙ ap (λ y. y ∷ rest) (sym at) in
    ap (λ l. l ++ with_commas (x == 10) rest) is
    ∙ append_assoc made (with_commas b (x ∷ [])) (with_commas (x == 10) rest)
    ∙ ap (λ l. made ++ l) (sym (ap (with_commas b) here ∙ more b x rest))
    ∙ so_far

none : (b : Bool) → with_commas b [] ≡ []
none b = refl

-- past the last byte
pub bytes_added : (made bytes all : List ℕ) (b : Bool) (i : ℕ) → length bytes ≤ i → made ++ with_commas b (drop i bytes) ≡ all → made ≡ all
bytes_added made bytes all b i past so_far =
    sym (append-nil made) ∙ ap (λ l. made ++ l) (sym (ap (with_commas b) (drop_all i bytes past) ∙ none b)) ∙ so_far
