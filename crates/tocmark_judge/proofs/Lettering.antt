-- Texts whose letters are compared one after the other.
use Rattle.std.proofs.Common.{◌≡◌, ◌≢◌, ◌∙◌, ◌↔◌, ℕ, Bool, true, false, not, List, [], ◌∷◌, Option, Some, None, MatchOption, is_some, IsTrue, Bor, refl, ap, ap₂, sym, arith, drop, get_or, length, cond, true≢false}
use Rattle.tocmark_judge.specs.Letters.{is_letter, letters}

-- a text that begins with a letter, and one that begins with another byte
pub from-letter : (b : ℕ) (rest text : List ℕ) → text ≡ b ∷ rest → is_letter b ≡ true → letters text ≡ b ∷ letters rest
from-letter b rest text e h = ap letters e ∙ ap (λ t. cond t (b ∷ letters rest) (letters rest)) h

pub from-other : (b : ℕ) (rest text : List ℕ) → text ≡ b ∷ rest → is_letter b ≡ false → letters text ≡ letters rest
from-other b rest text e h = ap letters e ∙ ap (λ t. cond t (b ∷ letters rest) (letters rest)) h

-- two lists begin with the same
pub both-further : (b c : ℕ) (p q x y : List ℕ) (W : Type 0) → p ≡ b ∷ x → q ≡ c ∷ y → c ≡ b → ((p ≡ q) ↔ W) → ((x ≡ y) ↔ W)
both-further b c p q x y W e f same h =
    ((λ k. h.0 (e ∙ ap₂ (λ a more. a ∷ more) (sym same) k ∙ sym f)), (λ w. ap (drop 1) (sym e ∙ h.1 w ∙ f)))

-- they begin with different things
pub differ : (b c : ℕ) (p q x y : List ℕ) (W : Type 0) → p ≡ b ∷ x → q ≡ c ∷ y → c ≢ b → ((p ≡ q) ↔ W) → IsTrue false ↔ W
differ b c p q x y W e f other h =
    ((λ k. absurd (true≢false (sym k))), (λ w. absurd (other (ap (λ all. get_or all 0 0) (sym f ∙ sym (h.1 w) ∙ e)))))

-- one ends before the other
unlike : (b : ℕ) (rest : List ℕ) → b ∷ rest ≡ [] → ⊥
unlike b rest k = let short : length (b ∷ rest) ≡ 0 = ap length k in omega (arith, short)

pub ends-early : (b : ℕ) (p q x : List ℕ) (W : Type 0) → p ≡ b ∷ x → q ≡ [] → ((p ≡ q) ↔ W) → IsTrue false ↔ W
ends-early b p q x W e f h = ((λ k. absurd (true≢false (sym k))), (λ w. absurd (unlike b x (sym e ∙ h.1 w ∙ f))))

-- one ends: the other one has to end, too
pub ends : (r : Option (ℕ × Bor (List ℕ))) (none : Bool) (p q : List ℕ) (W : Type 0) → p ≡ [] → MatchOption r (q ≡ []) (λ found. q ≡ found.0 ∷ letters found.1.now) → is_some r ≡ not none → ((p ≡ q) ↔ W) → IsTrue none ↔ W
ends None true p q W e f is h = ((λ k. h.0 (e ∙ sym f)), (λ w. refl))
ends None false p q W e f is h = absurd (true≢false (sym is))
ends (Some x) true p q W e f is h = absurd (true≢false is)
ends (Some x) false p q W e f is h =
    ((λ k. absurd (true≢false (sym k))), (λ w. absurd (unlike x.0 (letters x.1.now) (sym f ∙ sym (h.1 w) ∙ e))))
