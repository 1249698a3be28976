-- Tokens that are added one after the other.
use Rattle.std.proofs.Common.{◌≡◌, ◌∙◌, ◌++◌, List, ap}
use Rattle.std.proofs.lemmas.List.{append_assoc}
use Rattle.json.specs.Token.{Token}

-- what is added after what is added
pub then_adds : {mid new : List Token} (old a b : List Token) → mid ≡ old ++ a → new ≡ mid ++ b → new ≡ old ++ (a ++ b)
then_adds {mid} {new} old a b first then =
    then ∙ ap (λ (l : List Token). l ++ b) first ∙ append_assoc old a b
