use Rattle.std.proofs.Common.{◌∙◌, ℕ, map, ap, sym, arith}
use Rattle.std.proofs.lemmas.List.{with_items_is}
use mathlib.Core.List.{map-map}
use Rattle.tocmark_event.specs.Text.{ParserEvent, text_of}
use Rattle.tocmark_event.specs.View.{event_view}
use Rattle.tocmark_compare.specs.Given.{found_events, given_events}
use Rattle.tocmark_compare.proofs.Found.{found-given}
use Rattle.tocmark_rewrite.specs.Edits.{with_level}
use Rattle.tocmark_rewrite.specs.declared.edits.Shift.TheVariants.{Down}
use Rattle.examples.proofs.preprocessor.read_lowered.Goals as goal

pub returns : goal.returns
returns g c =
    ap given_events (with_items_is c.in_ok-reading.reading.events c.shift_headings.new.events (omega arith))
    ∙ c.shift_headings.ensures
    ∙ ap (map (λ (e : ParserEvent × (ℕ × ℕ)). (with_level (Down 1)) (event_view text_of e.0))) c.deref_mut.ensures.value
    ∙ sym (map-map (with_level (Down 1)) (λ (e : ParserEvent × (ℕ × ℕ)). event_view text_of e.0) c.in_ok-reading.reading.events.items)
    ∙ ap (map (with_level (Down 1))) (sym (found-given c.in_ok-reading.reading) ∙ ap found_events c.in_ok-reading.ensures)
