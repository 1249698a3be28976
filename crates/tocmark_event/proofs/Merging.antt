-- How `merged` goes over one event.
use Rattle.std.proofs.Common.{◌≡◌, ℕ, List, [], ◌∷◌, ◌++◌, Option, Some, None, refl, ap, append_assoc, sym, map, drop, ◌+◌, ◌<◌, ◌≤◌, length, get_or, ◌∙◌}
use Rattle.std.proofs.lemmas.List.{drop_more, drop_all}
use Rattle.tocmark_event.specs.View.{EventView, Leaf, Text, event_view}
use Rattle.tocmark_event.specs.Merged.{after_text, merged, with_text, or_empty, pending_text}
use Rattle.tocmark_event.specs.declared.event.EventOf.{EventOf}
use Rattle.tocmark_event.specs.declared.event.EventOf.TheVariants as event

-- two texts in front are one
pub after_text-twice : (t u : List ℕ) (es : List EventView) → after_text t (after_text u es) ≡ after_text (t ++ u) es
after_text-twice t u [] = refl
after_text-twice t u (Leaf (Text v) ∷ es) = ap (λ w. Leaf (Text w) ∷ es) (sym (append_assoc t u v))
after_text-twice t u (e ∷ es) = refl

abbrev pub IsNoText : EventView → Type 0
IsNoText (Leaf (Text t)) = ⊥
IsNoText e = Unit {0}

-- a text joins what is pending
pub with_text-text : (p : Option (List ℕ)) (t : List ℕ) (es : List EventView) → with_text p (merged (Leaf (Text t) ∷ es)) ≡ with_text (Some (or_empty p ++ t)) (merged es)
with_text-text None t es = refl
with_text-text (Some s) t es = after_text-twice s t (merged es)

-- any other event ends it
pub with_text-other : (p : Option (List ℕ)) (e : EventView) (es : List EventView) → IsNoText e → with_text p (merged (e ∷ es)) ≡ pending_text p ++ e ∷ merged es
with_text-other None (Leaf (Text t)) es h = absurd h
with_text-other None e es h = refl
with_text-other (Some s) (Leaf (Text t)) es h = absurd h
with_text-other (Some s) e es h = refl

-- an event that is no text has a view that is none
pub no_text : {T : Type 0} (bytes : T → List ℕ) (e : EventOf T) → ((x : T) → e ≡ event.Text x → ⊥) → IsNoText (event_view bytes e)
no_text bytes (event.Text x) h = h x refl
no_text bytes e h = tt

module _ {T : Type 0} (bytes : T → List ℕ) (all : List EventView) (p : Option (List ℕ)) (events : List (EventOf T)) (i : ℕ) (e : EventOf T) (lt : i < length events) (is : e ≡ get_or events i e) where
  at_event : merged (map (event_view bytes) (drop i events)) ≡ merged (event_view bytes e ∷ map (event_view bytes) (drop (i + 1) events))
  at_event = ap (λ es. merged (map (event_view bytes) es)) (drop_more events i e lt ∙ ap (λ x. x ∷ drop (i + 1) events) (sym is))

  -- one step of the loop, at a text
  pub text_step : (t : List ℕ) → event_view bytes e ≡ Leaf (Text t) → all ++ with_text (Some (or_empty p ++ t)) (merged (map (event_view bytes) (drop (i + 1) events))) ≡ all ++ with_text p (merged (map (event_view bytes) (drop i events)))
  text_step t h = ap (λ es. all ++ es) (sym (ap (with_text p) (at_event ∙ ap (λ x. merged (x ∷ map (event_view bytes) (drop (i + 1) events))) h) ∙ with_text-text p t (map (event_view bytes) (drop (i + 1) events))))

  -- at another event
  pub other_step : ((x : T) → e ≡ event.Text x → ⊥) → ((all ++ pending_text p) ++ event_view bytes e ∷ []) ++ merged (map (event_view bytes) (drop (i + 1) events)) ≡ all ++ with_text p (merged (map (event_view bytes) (drop i events)))
  other_step h = append_assoc (all ++ pending_text p) (event_view bytes e ∷ []) _ ∙ (append_assoc all (pending_text p) _ ∙ ap (λ es. all ++ es) (sym (ap (with_text p) at_event ∙ with_text-other p (event_view bytes e) (map (event_view bytes) (drop (i + 1) events)) (no_text bytes e h))))

with_text-nothing : (p : Option (List ℕ)) → with_text p [] ≡ pending_text p
with_text-nothing None = refl
with_text-nothing (Some t) = refl

-- past the last event the pending text is all that is left
pub all_merged : {T : Type 0} (bytes : T → List ℕ) (all whole : List EventView) (p : Option (List ℕ)) (events : List (EventOf T)) (i : ℕ) → length events ≤ i → all ++ with_text p (merged (map (event_view bytes) (drop i events))) ≡ whole → all ++ pending_text p ≡ whole
all_merged bytes all whole p events i past e =
    ap (λ es. all ++ es) (sym (with_text-nothing p)) ∙ (ap (λ es. all ++ with_text p (merged (map (event_view bytes) es))) (sym (drop_all i events past)) ∙ e)
