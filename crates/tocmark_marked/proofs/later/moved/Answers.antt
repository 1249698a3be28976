use Rattle.std.proofs.Common.{◌∙◌, List, ap, arith, map, string_bytes, sym, ℕ}
use Rattle.std.proofs.lemmas.List.{with_items_is}
use mathlib.Core.List.{map-map}
use Rattle.tocmark_event.specs.Reading.{ReadingView}
use Rattle.tocmark_event.specs.Text.{ParserEvent, text_of}
use Rattle.tocmark_event.specs.View.{EventView, event_view}
use Rattle.tocmark_marked.specs.Marked.{later_event, with_later_range}
use Rattle.tocmark_marked.proofs.later.moved.Goals as goal

pub returns : goal.returns
returns c =
    let view : ParserEvent × (ℕ × ℕ) → EventView × (ℕ × ℕ) = λ e. (event_view text_of e.0, e.1) in
    let old : List (ParserEvent × (ℕ × ℕ)) = c.args.reading.events.items in
    let whole : List (EventView × (ℕ × ℕ)) → ReadingView = λ es. record { events = es; defined = map string_bytes c.args.reading.defined.items; unresolved = map string_bytes c.args.reading.unresolved.items } in
    ap (λ (es : List (ParserEvent × (ℕ × ℕ))). whole (map view es))
    (with_items_is c.args.reading.events c.move_events.new.events (omega arith)
    ∙ c.move_events.ensures ∙ ap (map with_later_range) c.deref_mut.ensures.value)
    ∙ ap whole (map-map view with_later_range old ∙ sym (map-map later_event view old))
