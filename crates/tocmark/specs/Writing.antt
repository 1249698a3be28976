-- What a call that writes a list of events did with the list and with its writer.
use Rattle.std.specs.Prelude.{◌≡◌, ◌⊎◌, ℕ, List, ◌∷◌, Option, Result, IsErrAnd, IsOk, IsTrue}
use Rattle.std.specs.Borrow.{Bor}
use Rattle.std.specs.Iterator.{DrainsIf}
use Rattle.std.specs.List.{list_all}
use Rattle.tocmark_event.specs.Text.{ParserEvent}
use Rattle.tocmark_event.specs.declared.event.flags.ParserOptions.{ParserOptions}
use Rattle.tocmark_event.specs.declared.options.Error.{Error}
use Rattle.tocmark_laws.specs.PlainLines.{HandsLines, is_line, paragraph_of_lines}
use Rattle.tocmark_state.specs.Ranges.{Pair, Range}
use Rattle.tocmark_state.specs.Walk.{Rendering, Walk, done, nothing_yet, script, walk}
use Rattle.tocmark_state.specs.Writes.{Makes, RefusesAt}
use Rattle.tocmark_state.specs.WorkView.{pairs, ranged_pairs}

-- a list became an iterator that gave some items, and has no more if the list was taken whole; and something holds of them
abbrev pub TakesItems : {L I X : Type 0} → (L → I → Type 0) → (I → Option X → I → Type 0) → L → Type 0 → (List X → Type 0) → Type 0
TakesItems {L} {I} {X} into next list IsWhole Holds = (it : I) × (xs : List X) × into list it × DrainsIf next IsWhole it xs × Holds xs

-- a call took a list whole, and something holds of its items
abbrev pub TakesWhole : {L I X : Type 0} → (L → I → Type 0) → (I → Option X → I → Type 0) → L → (List X → Type 0) → Type 0
TakesWhole into next list Holds = TakesItems into next list (Unit {0}) Holds

-- a call took a front of a list, and something holds of its items
abbrev pub TakesFront : {L I X : Type 0} → (L → I → Type 0) → (I → Option X → I → Type 0) → L → (List X → Type 0) → Type 0
TakesFront into next list Holds = TakesItems into next list ⊥ Holds

-- a call took events from a list, all of them if it succeeded, and something holds of them
abbrev pub TakesEvents : {L I X A : Type 0} → (L → I → Type 0) → (I → Option X → I → Type 0) → L → Result A Error → (List X → Type 0) → Type 0
TakesEvents into next list r Holds = TakesItems into next list (IsOk r) Holds

-- a call that had this walk to make failed at it
abbrev pub Fails : {W X S : Type 0} → (W → List ℕ → W → Type 0) → (W → List ℕ → W → Type 0) → W → W → Result X Error → Walk S → Type 0
Fails gives refuses w v r walk = IsErrAnd r (λ e. RefusesAt gives refuses w v e walk)

-- The writer received what the definition lists for the events of a list, up to the first error. Either the call took the whole
-- list, and made its script from where nothing is written yet; or it failed before the end, and made only the walk of the front
-- that it took, with which the script of each longer list begins. The events have no ranges, so that it is so over any source.
abbrev pub WritesEvents : {L I W A : Type 0} → (L → I → Type 0) → (I → Option (Bor ParserEvent) → I → Type 0) → L
    → (W → List ℕ → W → Type 0) → (W → List ℕ → W → Type 0) → W → W → Result A Error → Rendering → ParserOptions → Type 0
WritesEvents into next list gives refuses w v r how flags =
    TakesWhole into next list (λ xs. (source : List ℕ) → Makes gives refuses w v r done (script how source (nothing_yet flags) (pairs xs)))
    ⊎ TakesFront into next list (λ xs. (source : List ℕ) → Fails gives refuses w v r (walk how source (nothing_yet flags) (pairs xs)))

-- the same of events with ranges in a source
abbrev pub WritesRanged : {L I W A : Type 0} → (L → I → Type 0) → (I → Option (Bor ParserEvent × Option Range) → I → Type 0) → L → List ℕ
    → (W → List ℕ → W → Type 0) → (W → List ℕ → W → Type 0) → W → W → Result A Error → Rendering → ParserOptions → Type 0
WritesRanged into next list source gives refuses w v r how flags =
    TakesWhole into next list (λ xs. Makes gives refuses w v r done (script how source (nothing_yet flags) (ranged_pairs xs)))
    ⊎ TakesFront into next list (λ xs. Fails gives refuses w v r (walk how source (nothing_yet flags) (ranged_pairs xs)))

-- if the events are those of a paragraph of lines, a call handed one text that the core reader reads as that paragraph
abbrev pub MakesLines : {W A : Type 0} → (W → List ℕ → W → Type 0) → (W → List ℕ → W → Type 0) → W → W → Result A Error → List Pair → Type 0
MakesLines gives refuses w v r p =
    (l : List ℕ) (ms : List (List ℕ)) → IsTrue (list_all is_line (l ∷ ms)) → p ≡ paragraph_of_lines l ms → HandsLines gives refuses w v r l ms
