-- Stretches of texts that become one, with something beside each event.
use Rattle.std.proofs.Common.{◌≡◌, ◌∙◌, ℕ, ◌+◌, ◌<◌, ◌≤◌, length, List, [], ◌∷◌, ◌++◌, Option, Some, None, refl, ap, append_assoc, sym, map, drop, get_or}
use Rattle.std.proofs.lemmas.List.{drop_more, drop_all}
use Rattle.tocmark_event.proofs.Merging.{IsNoText, with_text-text, with_text-other}
use Rattle.tocmark_event.specs.Merged.{merged, with_text, or_empty, pending_text}
use Rattle.tocmark_event.specs.View.{EventView, Leaf, Text}

module _ {A : Type 0} (view : A → EventView) (all : List EventView) (p : Option (List ℕ)) (events : List A) (i : ℕ) (e : A) (lt : i < length events) (is : e ≡ get_or events i e) where
  at_event : merged (map view (drop i events)) ≡ merged (view e ∷ map view (drop (i + 1) events))
  at_event = ap (λ es. merged (map view es)) (drop_more events i e lt ∙ ap (λ x. x ∷ drop (i + 1) events) (sym is))

  -- one step of the loop, at a text
  pub text-step : (t : List ℕ) → view e ≡ Leaf (Text t) → all ++ with_text (Some (or_empty p ++ t)) (merged (map view (drop (i + 1) events))) ≡ all ++ with_text p (merged (map view (drop i events)))
  text-step t h = ap (λ es. all ++ es) (sym (ap (with_text p) (at_event ∙ ap (λ x. merged (x ∷ map view (drop (i + 1) events))) h) ∙ with_text-text p t (map view (drop (i + 1) events))))

  -- at another event
  pub other-step : IsNoText (view e) → ((all ++ pending_text p) ++ view e ∷ []) ++ merged (map view (drop (i + 1) events)) ≡ all ++ with_text p (merged (map view (drop i events)))
  other-step h = append_assoc (all ++ pending_text p) (view e ∷ []) _ ∙ (append_assoc all (pending_text p) _ ∙ ap (λ es. all ++ es) (sym (ap (with_text p) at_event ∙ with_text-other p (view e) (map view (drop (i + 1) events)) h)))

with_text-nothing : (p : Option (List ℕ)) → with_text p [] ≡ pending_text p
with_text-nothing None = refl
with_text-nothing (Some t) = refl

-- past the last event the stretch is all that is left
pub all-merged : {A : Type 0} (view : A → EventView) (all whole : List EventView) (p : Option (List ℕ)) (events : List A) (i : ℕ) → length events ≤ i → all ++ with_text p (merged (map view (drop i events))) ≡ whole → all ++ pending_text p ≡ whole
all-merged view all whole p events i past e =
    ap (λ es. all ++ es) (sym (with_text-nothing p)) ∙ (ap (λ es. all ++ with_text p (merged (map view es))) (sym (drop_all i events past)) ∙ e)
