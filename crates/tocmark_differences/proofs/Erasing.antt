-- Events that are erased one by one.
use Rattle.std.proofs.Common.{◌≡◌, ◌∙◌, ℕ, ◌+◌, ◌<◌, ◌≤◌, false, ◌&&◌, ap, append_assoc, append-nil, drop, get_or, length, map, sym, List, [], ◌∷◌, ◌++◌, Some}
use Rattle.std.specs.List.{slice_get}
use Rattle.std.proofs.lemmas.List.{drop_more, drop_all}
use Rattle.std.proofs.lemmas.Option.{slice_get_within, get_or_from_slice_get}
use Rattle.tocmark_event.specs.View.{EventView}
use Rattle.tocmark_differences.specs.Erased.{after_event, ends_lines, erased, erased_event, is_lines_end, line_ended}
use Rattle.tocmark_differences.specs.declared.allowed.Allowed.{Allowed}
use Rattle.tocmark_differences.specs.declared.erase.Within.{Within}

module _ {A : Type 0} (view : A → EventView) (events : List A) (i : ℕ) where
  -- what ends at a place of the list
  pub ends-some : (x : A) → slice_get events i ≡ Some x → ends_lines (map view (drop i events)) ≡ is_lines_end (view x)
  ends-some x e =
      ap (λ es. ends_lines (map view es))
      (drop_more events i x (slice_get_within events i x e) ∙ ap (λ y. y ∷ drop (i + 1) events) (get_or_from_slice_get events i x x e))

  -- nothing ends past the list
  pub ends-none : length events ≤ i → ends_lines (map view (drop i events)) ≡ false
  ends-none past = ap (λ es. ends_lines (map view es)) (drop_all i events past)

  module _ (a : Allowed) (w : Within) (all : List EventView) where
    -- one event more
    pub erased-step : (e : A) → i < length events → e ≡ get_or events i e → (all ++ line_ended (a.fences && ends_lines (map view (drop (i + 1) events))) (erased_event a w (view e)) ∷ []) ++ erased a (after_event w (view e)) (map view (drop (i + 1) events)) ≡ all ++ erased a w (map view (drop i events))
    erased-step e lt is =
        append_assoc all (line_ended (a.fences && ends_lines (map view (drop (i + 1) events))) (erased_event a w (view e)) ∷ []) _
        ∙ ap (λ es. all ++ es) (sym (ap (λ es. erased a w (map view es)) (drop_more events i e lt ∙ ap (λ x. x ∷ drop (i + 1) events) (sym is))))

    -- past the last event
    pub erased-all : (whole : List EventView) → length events ≤ i → all ++ erased a w (map view (drop i events)) ≡ whole → all ≡ whole
    erased-all whole past e = sym (append-nil all) ∙ (ap (λ es. all ++ erased a w (map view es)) (sym (drop_all i events past)) ∙ e)
