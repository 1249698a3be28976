-- The places of a link at which its text can end, tried one after the other.
use Rattle.std.proofs.Common.{◌≡◌, ◌∙◌, ℕ, zero, suc, Bool, List, [], ◌∷◌, Option, Some, None, ap, codes, false, is_some, refl, subst, sym, take, true}
use Rattle.std.specs.Option.{option_or}
use Rattle.tocmark_read_scan.specs.Basic.{starts_at}
use Rattle.tocmark_json.specs.Destinations.{ends_of_text, first_some}

-- no place
pub none_there : (f : ℕ → Option (ℕ × ℕ)) (t : ℕ) → first_some f (take t []) ≡ None
none_there f zero = refl
none_there f (suc t) = refl

module _ (f : ℕ → Option (ℕ × ℕ)) (link : List ℕ) (n at : ℕ) (next : at ≡ suc n) where
  -- the text can't end here
  pub skipped : (t : ℕ) → starts_at link n (codes "](") ≡ false → first_some f (take t (ends_of_text link at)) ≡ first_some f (take t (ends_of_text link n))
  skipped t not_here = ap (λ m. first_some f (take t (ends_of_text link m))) next ∙ rw not_here refl

  here : starts_at link n (codes "](") ≡ true → ends_of_text link at ≡ n ∷ ends_of_text link n
  here ends = ap (λ m. ends_of_text link m) next ∙ rw ends refl

  module _ (t k : ℕ) (left : t ≡ suc k) (ends : starts_at link n (codes "](") ≡ true) where
    tried : first_some f (take t (ends_of_text link at)) ≡ option_or (f n) (first_some f (take k (ends_of_text link n)))
    tried = ap (λ m. first_some f (take m (ends_of_text link at))) left ∙ ap (λ xs. first_some f (take (suc k) xs)) (here ends)

    -- it can, but the destination isn't there
    pub missed : (o : Option (ℕ × ℕ)) → o ≡ f n → is_some o ≡ false → first_some f (take t (ends_of_text link at)) ≡ first_some f (take k (ends_of_text link n))
    missed None is none = tried ∙ ap (λ p. option_or p (first_some f (take k (ends_of_text link n)))) (sym is)
    missed (Some p) is none = absurd cc

    -- it can, and the destination is there
    pub struck : (o : Option (ℕ × ℕ)) → o ≡ f n → is_some o ≡ true → first_some f (take t (ends_of_text link at)) ≡ o
    struck None is some = absurd cc
    struck (Some p) is some = tried ∙ ap (λ q. option_or q (first_some f (take k (ends_of_text link n)))) (sym is)
