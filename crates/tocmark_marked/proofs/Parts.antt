-- Parts of a reading, with their ranges in the whole text.
use Rattle.std.proofs.Common.{◌≡◌, ◌∙◌, ℕ, List, [], Bool, true, false, ap, length, map, sym}
use Rattle.std.proofs.lemmas.List.{length-map, map-append, nil_from_length}
use Rattle.tocmark_event.specs.Reading.{ReadingView}
use Rattle.tocmark_event.specs.View.{EventView}
use Rattle.tocmark_reader.specs.Left.{IsPart}
use Rattle.tocmark_marked.specs.Marked.{in_whole, later_event, later_reading}

none_moved : (es : List (EventView × (ℕ × ℕ))) → map later_event es ≡ [] → es ≡ []
none_moved es none =
    nil_from_length es (sym (length-map es later_event) ∙ ap (λ (l : List (EventView × (ℕ × ℕ))). length l) none)

-- a part of what follows a mark is a part of the whole
pub part_in_whole : (is_marked : Bool) (part old new : ReadingView) → IsPart part old new → IsPart (in_whole is_marked part) (in_whole is_marked old) (in_whole is_marked new)
part_in_whole false part old new h = h
part_in_whole true part old new h =
    let with_events : List (EventView × (ℕ × ℕ)) → ReadingView = λ es. record { events = es; defined = new.defined; unresolved = new.unresolved } in
    record {
      first = ap later_reading h.first ∙ ap with_events (map-append later_event part.events new.events);
      some = λ none. h.some (none_moved part.events none);
      defined = h.defined;
      unresolved = h.unresolved;
    }
