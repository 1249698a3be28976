-- The longest runs of bytes at the front of parts.
use Rattle.std.proofs.Common.{◌≡◌, ℕ, Bool, true, false, cond, List, [], ◌∷◌, ◌++◌, refl, ap, ◌∙◌}
use Rattle.std.proofs.lemmas.List.Sums.{take_while-cons}
use Rattle.std.specs.Prelude.{take_while}
use Rattle.std.specs.List.{AllByRecursion}
use Rattle.tocmark_event.specs.View.{EventView, Leaf, Text}
use Rattle.tocmark_read_scan.specs.PlainParts.{Part, Bare, Escaped, Referred, Feed, spelled, last_byte}
use Rattle.tocmark_read_inlines.proofs.PlainNeighbours.{ArePlainParts}
use Rattle.tocmark_reader.proofs.PlainEvents.{said}
use Rattle.tocmark_standard_laws.specs.Lettered.{letter_events, lettered}

-- a test that no byte passes that begins a part of several bytes, nor a line feed
pub record IsOfBytes (g : ℕ → Bool) : Type 0 where
  pub backslash : g 92 ≡ false
  pub ampersand : g 38 ≡ false
  pub feed : g 10 ≡ false

-- the longest front of parts of which each byte passes a test, and the parts after it
pub record Run (g : ℕ → Bool) (before : ℕ) (parts : List Part) : Type 0 where
  pub front : List ℕ
  pub rest : List Part
  pub spells : spelled parts ≡ front ++ spelled rest
  pub taken : take_while g (spelled parts) ≡ front
  pub all : AllByRecursion (λ c. g c ≡ true) front
  pub plain : ArePlainParts (last_byte before front) rest
  pub says : lettered (said parts) ≡ letter_events front ++ lettered (said rest)

-- no byte passes
none_passes : (g : ℕ → Bool) (before : ℕ) (parts : List Part) → take_while g (spelled parts) ≡ [] → ArePlainParts before parts → Run g before parts
none_passes g before parts e h = record { front = []; rest = parts; spells = refl; taken = e; all = tt; plain = h; says = refl }

first_fails : (g : ℕ → Bool) (b : ℕ) (bs : List ℕ) → g b ≡ false → take_while g (b ∷ bs) ≡ []
first_fails g b bs h = take_while-cons g b bs ∙ ap (λ z. cond z (b ∷ take_while g bs) []) h

pub first_passes : (g : ℕ → Bool) (b : ℕ) (bs xs : List ℕ) → g b ≡ true → take_while g bs ≡ xs → take_while g (b ∷ bs) ≡ b ∷ xs
first_passes g b bs xs h k = take_while-cons g b bs ∙ ap (λ z. cond z (b ∷ take_while g bs) []) h ∙ ap (λ ys. b ∷ ys) k

-- one more byte in front
one_more : (g : ℕ → Bool) (before b : ℕ) (parts : List Part) → g b ≡ true → Run g b parts → Run g before (Bare b ∷ parts)
one_more g before b parts h r = record {
  front = b ∷ r.front;
  rest = r.rest;
  spells = ap (λ xs. b ∷ xs) r.spells;
  taken = first_passes g b (spelled parts) r.front h r.taken;
  all = (h, r.all);
  plain = r.plain;
  says = ap (λ (es : List EventView). Leaf (Text (b ∷ [])) ∷ es) r.says;
}

pub run_of : (g : ℕ → Bool) → IsOfBytes g → (before : ℕ) (parts : List Part) → ArePlainParts before parts → Run g before parts
run_of g k before [] h = none_passes g before [] refl h
run_of g k before (Bare b ∷ parts) h = by (g b) refl (run_of g k b parts (h.1))
  where
    by : (c : Bool) → g b ≡ c → Run g b parts → Run g before (Bare b ∷ parts)
    by true e r = one_more g before b parts e r
    by false e r = none_passes g before (Bare b ∷ parts) (first_fails g b (spelled parts) e) h
run_of g k before (Escaped b ∷ parts) h = none_passes g before (Escaped b ∷ parts) (first_fails g 92 (b ∷ spelled parts) k.backslash) h
run_of g k before (Referred c bs ∷ parts) h = none_passes g before (Referred c bs ∷ parts) (first_fails g 38 (bs ++ spelled parts) k.ampersand) h
run_of g k before (Feed ∷ parts) h = none_passes g before (Feed ∷ parts) (first_fails g 10 (spelled parts) k.feed) h
