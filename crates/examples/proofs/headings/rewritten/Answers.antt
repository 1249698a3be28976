use Rattle.std.proofs.Common.{◌≡◌, ◌⊎◌, inl, inr, ℕ, List, [], ◌++◌, map, ap, sym, ◌∙◌, subst, string_bytes, Ok, arith}
use Rattle.std.proofs.lemmas.List.{with_items_is}
use mathlib.Core.List.{map-map}
use Rattle.std.specs.List.{concat}
use Rattle.tocmark_event.specs.Options.{default_options}
use Rattle.tocmark_event.specs.Text.{ParserEvent, text_of}
use Rattle.tocmark_event.specs.View.{EventView, event_view}
use Rattle.tocmark_event.specs.Reading.{ReadingView, events_left}
use Rattle.tocmark_event.specs.declared.event.flags.ParserOptions.{ParserOptions}
use Rattle.tocmark_reader.specs.Reading.{core_reading}
use Rattle.tocmark_state.specs.Ranges.{Pair, unranged}
use Rattle.tocmark_state.specs.WorkView.{rendering, pairs}
use Rattle.tocmark_state.specs.Walk.{Walk, Done, done, nothing_yet, script}
use Rattle.tocmark_laws.proofs.Handed.{pairs_of_events, written_in_parts}
use Rattle.examples.specs.Headings.{lowered}
use Rattle.examples.proofs.headings.rewritten.Goals as goal

-- the events of a reading whose items were moved, without their ranges
moved : (new old : List (ParserEvent × (ℕ × ℕ))) → map (λ (e : ParserEvent × (ℕ × ℕ)). event_view text_of e.0) new ≡ map (λ (e : ParserEvent × (ℕ × ℕ)). lowered (event_view text_of e.0)) old
    → map unranged (map (λ (e : EventView × (ℕ × ℕ)). e.0) (map (λ (e : ParserEvent × (ℕ × ℕ)). (event_view text_of e.0, e.1)) new))
    ≡ map (λ (e : EventView × (ℕ × ℕ)). unranged (lowered e.0)) (map (λ (e : ParserEvent × (ℕ × ℕ)). (event_view text_of e.0, e.1)) old)
moved new old made =
    ap (map unranged) (map-map (λ (e : EventView × (ℕ × ℕ)). e.0) (λ (e : ParserEvent × (ℕ × ℕ)). (event_view text_of e.0, e.1)) new ∙ made)
    ∙ map-map unranged (λ (e : ParserEvent × (ℕ × ℕ)). lowered (event_view text_of e.0)) old
    ∙ sym (map-map (λ (e : EventView × (ℕ × ℕ)). unranged (lowered e.0)) (λ (e : ParserEvent × (ℕ × ℕ)). (event_view text_of e.0, e.1)) old)

-- a call that succeeded took the whole list
whole : {A B : Type 0} → A ⊎ B → (B → ⊥) → A
whole (inl a) never = a
whole (inr b) never = absurd (never b)

pub returns : goal.returns
returns c =
    let h = whole c.in_ok-cmark.ensures.made (λ m. m.4 []) in
    let same : pairs h.1 ≡ map (λ e. unranged (lowered e.0)) (core_reading c.args.text.now).events =
    pairs_of_events h.1 h.0 (h.3.0, h.3.1, λ _. h.3.2 tt)
    ∙ ap (map unranged) (ap events_left h.2 ∙ c.events.ensures)
    ∙ ap (λ (items : List (ParserEvent × (ℕ × ℕ))). map unranged (map (λ (e : EventView × (ℕ × ℕ)). e.0) (map (λ (e : ParserEvent × (ℕ × ℕ)). (event_view text_of e.0, e.1)) items)))
    (with_items_is c.in_ok-reading.reading.events c.lower_all.new.events (omega arith))
    ∙ moved _ c.in_ok-reading.reading.events.items (c.lower_all.ensures ∙ ap (map (λ e. lowered (event_view text_of e.0))) c.deref_mut.ensures.value)
    ∙ ap (λ (r : ReadingView). map (λ e. unranged (lowered e.0)) r.events) c.in_ok-reading.ensures.reading in
    let walk : ParserOptions → List Pair → Walk Done = λ flags q. script (rendering default_options (λ t flags. core_reading t)) [] (nothing_yet flags) q in
    let flags = c.empty-flags.result in
    let none : ParserOptions = record { 0 = 0 } in
    record {
      ends_well =
          subst (λ (q : List Pair). (walk none q).outcome ≡ Ok done) same
          (subst (λ (f : ParserOptions). (walk f (pairs h.1)).outcome ≡ Ok done) c.empty-flags.ensures (h.4 []).0);
      joined =
          written_in_parts string_bytes (walk flags (pairs h.1)).texts c.new-output.result c.cmark.new.writer (h.4 []).1
          ∙ ap (λ (b : List ℕ). b ++ concat (walk flags (pairs h.1)).texts) c.new-output.ensures.bytes
          ∙ ap (λ (f : ParserOptions). concat (walk f (pairs h.1)).texts) c.empty-flags.ensures
          ∙ ap (λ (q : List Pair). concat (walk none q).texts) same;
    }
