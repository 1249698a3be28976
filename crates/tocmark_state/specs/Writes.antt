-- What a call did with a writer, which takes texts by one relation and refuses them by another.
use Rattle.std.specs.Prelude.{◌≡◌, ℕ, List, ◌∷◌, ◌++◌, Result, Ok, Err}
use Rattle.std.specs.List.{FoldsTo}
use Rattle.tocmark_event.specs.declared.options.Error.{Error}
use Rattle.tocmark_event.specs.declared.options.Error.TheVariants as error
use Rattle.tocmark_state.specs.Walk.{Walk}

-- the writer took a front of the texts
abbrev pub HandedFront : {W : Type 0} → (W → List ℕ → W → Type 0) → W → List (List ℕ) → W → Type 0
HandedFront gives w texts v = (front : List (List ℕ)) × (rest : List (List ℕ)) × (texts ≡ front ++ rest) × FoldsTo gives w front v

-- the writer took the texts up to one, which it refused
abbrev pub FailedAtOne : {W : Type 0} → (W → List ℕ → W → Type 0) → (W → List ℕ → W → Type 0) → W → W → List (List ℕ) → Type 0
FailedAtOne {W} gives refuses w u texts = (front : List (List ℕ)) × (at : List ℕ) × (rest : List (List ℕ)) × (texts ≡ front ++ at ∷ rest) × (v : W) × FoldsTo gives w front v × refuses v at u

-- an error of a call that had this walk to make
abbrev pub RefusesAt : {W S : Type 0} → (W → List ℕ → W → Type 0) → (W → List ℕ → W → Type 0) → W → W → Error → Walk S → Type 0
RefusesAt gives refuses w v (error.FormatFailed f) walk = FailedAtOne gives refuses w v walk.texts
RefusesAt gives refuses w v error.OutOfMemory walk = HandedFront gives w walk.texts v
RefusesAt gives refuses w v e walk = (walk.outcome ≡ Err e) × FoldsTo gives w walk.texts v

-- a call that had this walk to make, and left s where it succeeded
abbrev pub Makes : {W X S : Type 0} → (W → List ℕ → W → Type 0) → (W → List ℕ → W → Type 0) → W → W → Result X Error → S → Walk S → Type 0
Makes gives refuses w v (Ok x) s walk = (walk.outcome ≡ Ok s) × FoldsTo gives w walk.texts v
Makes gives refuses w v (Err e) s walk = RefusesAt gives refuses w v e walk

-- a call that answers this error at once: the writer is as it was
abbrev pub Rejects : {W X : Type 0} → W → W → Result X Error → Error → Type 0
Rejects w v r e = (r ≡ Err e) × (v ≡ w)
