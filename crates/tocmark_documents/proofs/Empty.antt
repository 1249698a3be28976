-- A text of no bytes is the empty one.
use Rattle.std.proofs.Common.{◌≡◌, ◌==◌, ℕ, List, [], ◌∷◌, true, length, refl, arith}
use Rattle.std.proofs.lemmas.Bool.Decides.{nat_tests}

pub empty_text : (text : List ℕ) → (length text == 0) ≡ true → text ≡ []
empty_text [] h = refl
empty_text (b ∷ bs) h = absurd (grind (arith, nat_tests))
