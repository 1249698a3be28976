-- One turn of the loop over events is one step of the machine.
use Rattle.std.proofs.Common.{◌≡◌, ℕ, zero, suc, ◌+◌, ◌<◌, ◌≤◌, List, [], ◌∷◌, refl, sym, ap, ◌∙◌, map, take, drop, length, get_or, reverse}
use Rattle.std.proofs.Math.ListN.{drop_of_length-le}
use Rattle.std.proofs.lemmas.List.{at_drop_more, reverse-append, take_more, map-append}
use Rattle.tocmark_event.specs.View.{SourcedEvent}
use Rattle.tocmark_spelling.specs.Buffered.{buffered_view}
use Rattle.tocmark_spelling.specs.declared.buffered.BufferedEvent.{BufferedEvent}

pub length-events : (es : List BufferedEvent) → length (map buffered_view es) ≡ length es
length-events [] = refl
length-events (e ∷ es) = ap suc (length-events es)

pub events-drop : (es : List BufferedEvent) (i : ℕ) → map buffered_view (drop i es) ≡ drop i (map buffered_view es)
events-drop es zero = refl
events-drop [] (suc i) = refl
events-drop (e ∷ es) (suc i) = events-drop es i

pub drop-event : (es : List BufferedEvent) (i : ℕ) (e : BufferedEvent) → i < length es → e ≡ get_or es i e → drop i (map buffered_view es) ≡ buffered_view e ∷ drop (i + 1) (map buffered_view es)
drop-event es i e h q =
    sym (events-drop es i) ∙ at_drop_more (map buffered_view) es i e h ∙ ap (λ x. buffered_view x ∷ map buffered_view (drop (i + 1) es)) (sym q) ∙ ap (λ x. buffered_view e ∷ x) (events-drop es (i + 1))

pub drop-all : (evs : List SourcedEvent) (i : ℕ) → length evs ≤ i → drop i evs ≡ []
drop-all evs i h = drop_of_length-le evs h

-- the events before a place, the last one first, and the one there
pub before-event : (es : List BufferedEvent) (i : ℕ) (e : BufferedEvent) → i < length es → e ≡ get_or es i e → reverse (map buffered_view (take (i + 1) es)) ≡ buffered_view e ∷ reverse (map buffered_view (take i es))
before-event es i e h q =
    ap (λ x. reverse (map buffered_view x)) (take_more es i e h)
    ∙ ap reverse (map-append buffered_view (take i es) (get_or es i e ∷ []))
    ∙ reverse-append (map buffered_view (take i es)) (buffered_view (get_or es i e) ∷ [])
    ∙ ap (λ x. buffered_view x ∷ reverse (map buffered_view (take i es))) (sym q)

pub events-take : (es : List BufferedEvent) (n : ℕ) → map buffered_view (take n es) ≡ take n (map buffered_view es)
events-take es zero = refl
events-take [] (suc n) = refl
events-take (e ∷ es) (suc n) = ap (λ x. buffered_view e ∷ x) (events-take es n)
