-- The text of a list of differences, from its tokens.
use Rattle.std.proofs.Common.{◌≡◌, ◌↔◌, ◌∙◌, ◌++◌, ◌∷◌, [], ℕ, Bool, true, false, List, suc, zero, ap, sym, subst, refl, codes, get_or, length, nat_eq, true≢false}
use Rattle.std.proofs.lemmas.List.{append_assoc}
use Rattle.json.specs.Print.{print, print_from}
use Rattle.json.specs.Token.{Token, begin_array, begin_object, end_array}
use Rattle.tocmark_c.specs.Comparing.{OpensObject}

-- the tokens where so many differences are written
abbrev pub Begun : ℕ → List Token → Type 0
Begun zero ts = ts ≡ begin_array ∷ []
Begun (suc n) ts = (more : List Token) × (ts ≡ begin_array ∷ begin_object ∷ more)

begun_one_more : (n : ℕ) (old new : List Token) → Begun n old → OpensObject old new → Begun (suc n) new
begun_one_more zero old new begun opens =
    (opens.0, opens.1 ∙ ap (λ (ts : List Token). ts ++ begin_object ∷ opens.0) begun)
begun_one_more (suc n) old new begun opens =
    (begun.0 ++ begin_object ∷ opens.0, opens.1 ∙ ap (λ (ts : List Token). ts ++ begin_object ∷ opens.0) begun.1)

-- one more is written
pub begun_more : (n m : ℕ) (old new : List Token) → m ≡ suc n → Begun n old → OpensObject old new → Begun m new
begun_more n m old new more begun opens =
    subst (λ (k : ℕ). Begun k new) (sym more) (begun_one_more n old new begun opens)

abbrev has_any : {A : Type 0} → List A → Bool
has_any [] = false
has_any (x ∷ xs) = true

begun_all : {A : Type 0} (all : List A) (ts : List Token) (output : List ℕ) → Begun (length all) ts → output ≡ print (ts ++ end_array ∷ []) → (output ≡ codes "[]") ↔ (all ≡ [])
unfolding print_from
begun_all [] ts output begun is =
    ((λ _. refl), (λ _. is ∙ ap (λ (t : List Token). print (t ++ end_array ∷ [])) begun))
begun_all (x ∷ xs) ts output begun is = (
  (λ empty. absurd (true≢false (ap (λ (l : List ℕ). nat_eq (get_or l 1 0) 93) (sym empty ∙ is ∙ ap (λ (t : List Token). print (t ++ end_array ∷ [])) begun.1)))),
  (λ none. absurd (true≢false (ap has_any none))),
)

-- the text of all is an empty array exactly if there are none
pub begun_text : {A : Type 0} (n : ℕ) (all : List A) (ts : List Token) (before output : List ℕ) → n ≡ length all → Begun n ts → before ≡ [] → output ≡ before ++ print (ts ++ end_array ∷ []) → (output ≡ codes "[]") ↔ (all ≡ [])
begun_text n all ts before output count begun empty is =
    begun_all all ts output (subst (λ (k : ℕ). Begun k ts) count begun)
    (is ∙ ap (λ (b : List ℕ). b ++ print (ts ++ end_array ∷ [])) empty)

-- what is added after what is added
pub then_adds : {mid new : List Token} (old a b : List Token) → mid ≡ old ++ a → new ≡ mid ++ b → new ≡ old ++ (a ++ b)
then_adds {mid} {new} old a b first then =
    then ∙ ap (λ (l : List Token). l ++ b) first ∙ append_assoc old a b
