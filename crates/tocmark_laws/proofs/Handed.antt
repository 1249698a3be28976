-- What a caller knows of a call whose events are those of a reading, or whose writer keeps its text.
use Rattle.std.proofs.Common.{◌≡◌, ℕ, Option, List, [], ◌∷◌, ◌++◌, map, ap, sym, ◌∙◌, append_assoc, append-nil}
use mathlib.Core.List.{map-map}
use Rattle.std.specs.Borrow.{Bor}
use Rattle.std.specs.Iterator.{DrainsIf, YieldsFirstBy}
use Rattle.std.specs.List.{FoldsTo, concat}
use Rattle.tocmark_event.specs.Reading.{events_left, lent_event, lent_pair, pairs_left}
use Rattle.tocmark_event.specs.Text.{ParserEvent}
use Rattle.tocmark_event.specs.declared.reader.Events.{Events}
use Rattle.tocmark_event.specs.declared.reader.Pairs.{Pairs}
use Rattle.tocmark_laws.specs.Paragraphs.{Keeps}
use Rattle.tocmark_state.specs.Ranges.{Range, unranged}
use Rattle.tocmark_state.specs.WorkView.{pairs, ranged_pairs}
use Rattle.tocmark_state.proofs.Readings.{yielded}

module _ {S A B : Type 0} (view : A → B) (rest : S → List B) where
  -- all was given
  pub drained : (xs : List A) (s : S) → DrainsIf (YieldsFirstBy view rest) (Unit {0}) s xs → map view xs ≡ rest s
  drained xs s (t, gave, ended) =
      sym (yielded view rest xs s t gave ∙ ap (λ ys. map view xs ++ ys) (ended tt).1.0 ∙ append-nil (map view xs))

-- the pairs of a call that took all events of a reading
pub pairs_of_events : (xs : List (Bor ParserEvent)) (it : Events) → DrainsIf (YieldsFirstBy lent_event events_left) (Unit {0}) it xs → pairs xs ≡ map unranged (events_left it)
pairs_of_events xs it h = sym (map-map unranged lent_event xs) ∙ ap (map unranged) (drained lent_event events_left xs it h)

-- the pairs of a call that took all events of a reading with their ranges
pub pairs_of_pairs : (xs : List (Bor ParserEvent × Option Range)) (it : Pairs) → DrainsIf (YieldsFirstBy lent_pair pairs_left) (Unit {0}) it xs → ranged_pairs xs ≡ pairs_left it
pairs_of_pairs xs it h = drained lent_pair pairs_left xs it h

-- texts that a writer keeps one after the other
pub kept_in_parts : {W : Type 0} {takes : W → List ℕ → W → Type 0} (bytes : W → List ℕ) (keeps : Keeps takes bytes) (texts : List (List ℕ)) (w v : W) → FoldsTo takes w texts v → bytes v ≡ bytes w ++ concat texts
kept_in_parts bytes keeps [] w v h = sym (ap bytes h) ∙ sym (append-nil (bytes w))
kept_in_parts bytes keeps (t ∷ ts) w v (u, first, others) =
    kept_in_parts bytes keeps ts u v others ∙ (ap (λ b. b ++ concat ts) (keeps w t u first) ∙ append_assoc (bytes w) t (concat ts))

-- texts written one after the other
pub written_in_parts : {W : Type 0} (bytes : W → List ℕ) (texts : List (List ℕ)) (w v : W) → FoldsTo (λ s t u. bytes u ≡ bytes s ++ t) w texts v → bytes v ≡ bytes w ++ concat texts
written_in_parts bytes texts w v h = kept_in_parts bytes (λ w t v k. k) texts w v h
