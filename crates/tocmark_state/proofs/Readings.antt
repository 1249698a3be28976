-- What a state takes of a reading that is given away.
use Rattle.std.proofs.Common.{◌≡◌, ℕ, List, [], ◌∷◌, ◌++◌, map, length, sum_by, Option, Some, Result, Ok, Err, IsOk, refl, ap, sym, ◌∙◌, subst, append-nil}
use Rattle.std.proofs.lemmas.List.{map-append}
use mathlib.Core.List.{map-map}
use Rattle.std.specs.Borrow.{MutBor}
use Rattle.std.specs.Iterator.{Yields, DrainsIf, YieldsFirstBy}
use Rattle.std.specs.Result.{IfOk}
use Rattle.tocmark_event.specs.Text.{ParserEvent, text_of}
use Rattle.tocmark_event.specs.View.{EventView, event_view}
use Rattle.tocmark_event.specs.declared.event.flags.ParserOptions.{ParserOptions}
use Rattle.tocmark_event.specs.declared.options.Error.{Error}
use Rattle.tocmark_state.specs.declared.work.Progress.{Progress}
use Rattle.tocmark_state.specs.Ranges.{Pair, Range, unranged}
use Rattle.tocmark_state.specs.StateView.{Adds}
use Rattle.tocmark_state.specs.Taken.{taken_event, taken_pair}
use Rattle.tocmark_state.specs.Walk.{Rendering, Standing, Walk, nothing_yet, walk}
use Rattle.tocmark_state.specs.WorkView.{Counts}
use Rattle.tocmark_state.specs.Writes.{Makes, RefusesAt}
use Rattle.tocmark_state.proofs.Runs.{Adds-from}
use Rattle.tocmark_state.proofs.Unranged.{plain_pairs}
use Rattle.tocmark_state.proofs.Walks.{RefusesAt-longer, walk-append}

module _ {S A B : Type 0} (view : A → B) (rest : S → List B) where
  -- what was given, and then what is left, is all
  pub yielded : (xs : List A) (s t : S) → Yields (YieldsFirstBy view rest) s xs t → rest s ≡ map view xs ++ rest t
  yielded [] s t h = ap rest h
  yielded (x ∷ xs) s t (j, first, others) = first ∙ ap (λ ys. view x ∷ ys) (yielded xs j t others)

  -- what was taken is a front of all, and all of it where C holds
  pub front_taken : (C : Type 0) (xs : List A) (s : S) → DrainsIf (YieldsFirstBy view rest) C s xs → (left : List B) × (rest s ≡ map view xs ++ left) × (C → left ≡ [])
  front_taken C xs s (t, gave, ended) = (rest t, yielded xs s t gave, λ c. (ended c).1.0)

abbrev Item : Type 0
Item = ParserEvent × (ℕ × ℕ)

-- what was taken of a reading's events, and then what is left, is all of them
pub all_events : (items rest : List Item) → rest ≡ items → (xs : List (MutBor ParserEvent)) (left : List EventView) → map (λ (e : Item). event_view text_of e.0) rest ≡ map taken_event xs ++ left → map (λ (e : EventView × (ℕ × ℕ)). unranged e.0) (map (λ (e : Item). (event_view text_of e.0, e.1)) items) ≡ plain_pairs taken_event xs ++ map unranged left
all_events items rest same xs left h =
    map-map (λ (e : EventView × (ℕ × ℕ)). unranged e.0) (λ (e : Item). (event_view text_of e.0, e.1)) items
    ∙ sym (map-map unranged (λ (e : Item). event_view text_of e.0) items)
    ∙ ap (λ (l : List Item). map unranged (map (λ (e : Item). event_view text_of e.0) l)) (sym same)
    ∙ ap (map unranged) h
    ∙ map-append unranged (map taken_event xs) left
    ∙ ap (λ l. l ++ map unranged left) (map-map unranged taken_event xs)

-- the same with their ranges
pub all_pairs : (items rest : List Item) → rest ≡ items → (xs : List (MutBor ParserEvent × Option Range)) (left : List Pair) → map (λ (e : Item). (event_view text_of e.0, Some e.1)) rest ≡ map taken_pair xs ++ left → map (λ (e : EventView × (ℕ × ℕ)). (e.0, Some e.1)) (map (λ (e : Item). (event_view text_of e.0, e.1)) items) ≡ map taken_pair xs ++ left
all_pairs items rest same xs left h =
    map-map (λ (e : EventView × (ℕ × ℕ)). (e.0, Some e.1)) (λ (e : Item). (event_view text_of e.0, e.1)) items
    ∙ ap (map (λ (e : Item). (event_view text_of e.0, Some e.1))) (sym same)
    ∙ h

-- A call that took a front of a list, and all of it where it succeeded, adds what the whole list comes to.
pub Adds-all : {W : Type 0} (gives refuses : W → List ℕ → W → Type 0) (w v : W) (how : Rendering) (flags : ParserOptions) (source : List ℕ) (r : Result Progress Error) (place : Standing) (p q left all : List Pair) (s : Standing) → (walk how source (nothing_yet flags) p).outcome ≡ Ok s → all ≡ q ++ left → (IsOk r → left ≡ [])
    → Makes gives refuses w v r place (walk how source s q) → IfOk r (λ n. Counts n (length q) (sum_by length (walk how source s q).texts)) → Adds gives refuses w v how flags source r place p all
Adds-all gives refuses w v how flags source (Ok n) place p q left all s h whole ended m k =
    let same : all ≡ q = whole ∙ ap (λ l. q ++ l) (ended refl) ∙ append-nil q in
    subst (λ l. Adds gives refuses w v how flags source (Ok n) place p l) (sym same) (Adds-from gives refuses w v how flags source (Ok n) place p q s h m k)
Adds-all gives refuses w v how flags source (Err e) place p q left all s h whole ended m k =
    let longer : RefusesAt gives refuses w v e (walk how source s (q ++ left)) =
    subst (λ (x : Walk Standing). RefusesAt gives refuses w v e x) (sym (walk-append how source s q left))
    (RefusesAt-longer gives refuses w v e (walk how source s q).texts (walk how source s q).outcome (λ u. walk how source u left) m) in
    subst (λ l. Adds gives refuses w v how flags source (Err e) place p l) (sym whole)
    (Adds-from gives refuses w v how flags source (Err e) place p (q ++ left) s h longer tt)
