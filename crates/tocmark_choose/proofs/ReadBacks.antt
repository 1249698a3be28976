-- What a reader found is compared with what it must find.
use Rattle.std.proofs.Common.{◌≡◌, ℕ, Bool, true, false, List, [], ◌∷◌, map, refl, sym, ap, ◌∙◌, string_bytes}
use Rattle.std.specs.Prelude.{◌&&◌, not}
use Rattle.std.specs.List.{list_any}
use Rattle.tocmark_event.specs.Merged.{merged}
use Rattle.tocmark_event.specs.Reading.{ReadingView, reading_view}
use Rattle.tocmark_event.specs.Text.{ParserEvent, text_of}
use Rattle.tocmark_event.specs.View.{EventView, event_view}
use Rattle.tocmark_event.specs.declared.reader.Reading.{Reading}
use Rattle.tocmark_spelling.specs.ById.{events_of}
use Rattle.tocmark_spelling.specs.SameEvents.{same_events}
use Rattle.tocmark_choose.specs.ReadsBack.{found_in}

events-found : (xs : List (ParserEvent × (ℕ × ℕ))) → map (λ e. event_view text_of e.0) xs ≡ map (λ (e : EventView × (ℕ × ℕ)). e.0) (map (λ e. (event_view text_of e.0, e.1)) xs)
events-found [] = refl
events-found (x ∷ xs) = ap (λ es. event_view text_of x.0 ∷ es) (events-found xs)

module _ (is_taken : List ℕ → Bool) (expected : List EventView) (r : Reading) (q : ReadingView) (is_read : reading_view r ≡ q) where
  -- the events of a reading, merged
  abbrev found : List EventView
  found = merged (map (λ e. event_view text_of e.0) r.events.items)

  same : same_events found expected ≡ same_events (merged (events_of q)) expected
  same = ap (λ f. same_events f expected) (ap merged (events-found r.events.items) ∙ ap (λ q. merged (events_of q)) is_read)

  pub not-found : same_events found expected ≡ false → false ≡ found_in is_taken expected q
  not-found h = sym (ap (λ b. b && not (list_any is_taken q.unresolved)) (sym same ∙ h))

  pub found-open : (taken b : Bool) → same_events found expected ≡ true → taken ≡ list_any is_taken (map string_bytes r.unresolved.items) → taken ≡ b → not b ≡ found_in is_taken expected q
  found-open taken b h t e =
      ap not (sym e ∙ t ∙ ap (λ q. list_any is_taken q.unresolved) is_read)
      ∙ sym (ap (λ b. b && not (list_any is_taken q.unresolved)) (sym same ∙ h))
