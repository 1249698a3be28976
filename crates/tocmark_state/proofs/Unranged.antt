-- Events that come without ranges: which they are, and that no source matters for them.
use Rattle.std.proofs.Common.{◌≡◌, ℕ, List, [], ◌∷◌, ◌++◌, map, Result, Ok, Err, Option, None, refl, ap}
use Rattle.std.specs.Iterator.{Yields, DrainsIf}
use Rattle.tocmark_event.specs.View.{EventView}
use Rattle.tocmark_event.specs.declared.options.Error.{Error}
use Rattle.tocmark_spelling.specs.Buffered.{sourced}
use Rattle.tocmark_state.specs.Ranges.{Pair, Range, unranged, unranged_steps}
use Rattle.tocmark_state.specs.Walk.{Rendering, Standing, Walk, advance, go_on, walk}
use Rattle.tocmark_state.specs.WorkView.{incoming_pairs}
use Rattle.tocmark_state.specs.declared.ranges.Unranged.{Unranged}
use Rattle.tocmark_state.proofs.Walks.{step_unranged}

-- the events of pairs
abbrev pub firsts : {E : Type 0} → List (E × Option Range) → List E
firsts xs = map (λ x. x.0) xs

-- events in any form that they come in, as pairs without ranges
abbrev pub plain_pairs : {E : Type 0} → (E → EventView) → List E → List Pair
plain_pairs event xs = map (λ x. unranged (event x)) xs

module _ {S E : Type 0} (event : E → EventView) (steps : S → Option E → S → Type 0) where
  -- pairs that come of events alone are those events, and have no ranges
  pub came : (s : Unranged S) (xs : List (E × Option Range)) (t : Unranged S) → Yields (unranged_steps steps) s xs t → Yields steps s.events (firsts xs) t.events × (incoming_pairs event xs ≡ plain_pairs event (firsts xs))
  came s [] t h = (ap (λ u. u.events) h, refl)
  came s (x ∷ xs) t (j, first, rest) =
      let r = came j xs t rest in
      ((j.events, first.0, r.0), rw (first.1, r.1) refl)

  pub drained : (C : Type 0) (s : Unranged S) (xs : List (E × Option Range)) → DrainsIf (unranged_steps steps) C s xs → DrainsIf steps C s.events (firsts xs)
  drained C s xs (t, came_to, last) = (t.events, (came s xs t came_to).0, λ c. ((last c).0.events, (last c).1))

  pub unranged_pairs : (C : Type 0) (s : Unranged S) (xs : List (E × Option Range)) → DrainsIf (unranged_steps steps) C s xs → incoming_pairs event xs ≡ plain_pairs event (firsts xs)
  unranged_pairs C s xs (t, came_to, last) = (came s xs t came_to).1

-- what events without ranges come to is the same over each source
pub walk_unranged : {E : Type 0} (event : E → EventView) (how : Rendering) (a b : List ℕ) (s : Standing) (xs : List E) → walk how a s (plain_pairs event xs) ≡ walk how b s (plain_pairs event xs)
walk_unranged event how a b s [] = refl
walk_unranged event how a b s (x ∷ xs) =
    rw (step_unranged how a (event x) s, step_unranged how b (event x) s)
    (same (λ t. walk_unranged event how a b t xs) (advance how (sourced (event x) None) s).texts (advance how (sourced (event x) None) s).outcome)
  where
    same : ((t : Standing) → walk how a t (plain_pairs event xs) ≡ walk how b t (plain_pairs event xs)) → (texts : List (List ℕ)) (o : Result Standing Error) → go_on texts o (λ t. walk how a t (plain_pairs event xs)) ≡ go_on texts o (λ t. walk how b t (plain_pairs event xs))
    same h texts (Ok t) = ap (λ (w : Walk Standing). record { texts = texts ++ w.texts; outcome = w.outcome }) (h t)
    same h texts (Err e) = refl
