-- Line feeds in a text.
use Rattle.std.proofs.Common.{◌≡◌, ℕ, Bool, true, false, List, [], ◌∷◌, refl, ap, ◌∙◌, nat_eq}
use Rattle.std.specs.Prelude.{◌||◌, ◌&&◌}
use Rattle.std.specs.List.{list_any}
use Rattle.tocmark_spelling.specs.Words.{holds}

and_true : (b : Bool) → b && true ≡ b
and_true true = refl
and_true false = refl

-- a text of one byte is somewhere in another if some byte is that one
pub holds-byte : (c : ℕ) (bs : List ℕ) → holds bs (c ∷ []) ≡ list_any (λ b. nat_eq c b) bs
holds-byte c [] = refl
holds-byte c (b ∷ bs) = ap (λ x. x || holds bs (c ∷ [])) (and_true (nat_eq c b)) ∙ ap (λ x. nat_eq c b || x) (holds-byte c bs)
