-- Events whose texts are spelled alike in the source and escaped, one after another.
use Rattle.std.proofs.Common.{◌≡◌, ◌≤◌, ◌+◌, ℕ, Bool, List, ◌∷◌, drop, length, subst, sym}
use Rattle.tocmark_event.specs.View.{SourcedEvent}
use Rattle.tocmark_spelling.proofs.Turns.{drop-all}
use Rattle.tocmark_choose.specs.Alike.{AreAlike, IsEventAlike, is_within, place_after, raw_after}
use Rattle.tocmark_choose.specs.declared.alike.Place.{Place}

-- one more in front
pub alike-step : (raw after : Bool) (p q : Place) (evs : List SourcedEvent) (e : SourcedEvent) (i : ℕ) → drop i evs ≡ e ∷ drop (i + 1) evs → IsEventAlike raw (is_within p) e
    → after ≡ raw_after raw e → q ≡ place_after p e → AreAlike after q (drop (i + 1) evs) → AreAlike raw p (drop i evs)
alike-step raw after p q evs e i at alike is there h =
    subst (AreAlike raw p) (sym at) (alike, subst (λ r. AreAlike (raw_after raw e) r (drop (i + 1) evs)) there (subst (λ b. AreAlike b q (drop (i + 1) evs)) is h))

-- none after the last
pub alike-end : (raw : Bool) (p : Place) (evs : List SourcedEvent) (i : ℕ) → length evs ≤ i → AreAlike raw p (drop i evs)
alike-end raw p evs i le = subst (AreAlike raw p) (sym (drop-all evs i le)) tt
