use Rattle.std.proofs.Common.{[], ap, map, IsOk, ◌∙◌}
use Rattle.std.proofs.lemmas.List.{length-map}
use Rattle.std.specs.Iterator.{YieldsFirstBy}
use Rattle.tocmark_event.specs.Reading.{reading_view}
use Rattle.tocmark_state.specs.Ranges.{unranged}
use Rattle.tocmark_state.specs.StateView.{place_of, rendering_of}
use Rattle.tocmark_state.specs.Taken.{taken_event, taken_events_left, unranged_reading}
use Rattle.tocmark_state.proofs.Readings.{Adds-all, all_events, front_taken}
use Rattle.tocmark_state.proofs.Unranged.{drained, firsts, plain_pairs, unranged_pairs, walk_unranged}
use Rattle.tocmark_state.proofs.state.State.process_reading.Goals as goal

pub returns-clause-active : goal.returns-clause-active
returns-clause-active g c = λ flags source p h.
    let e = c.process_pairs.ensures.active h.active in
    let how = rendering_of g.R.Reader.reading c.args.self.now in
    let s = place_of c.args.self.now in
    let r = c.process_pairs.result in
    let steps = YieldsFirstBy taken_event taken_events_left in
    let came = unranged_pairs taken_event steps (IsOk r) _ e.0 e.1 in
    let front = front_taken taken_event taken_events_left (IsOk r) (firsts e.0) _ (drained taken_event steps (IsOk r) _ e.0 e.1) in
    let whole = all_events c.args.reading.events.items _ (c.iter_mut.ensures.rest ∙ c.deref_mut.ensures.value ∙ c.listed-events.ensures) (firsts e.0) front.0 front.1 in
    Adds-all g.W.Taker.takes g.W.Taker.refuses c.args.writer.now c.process_pairs.new.writer how flags source r (place_of c.process_pairs.new.self) p (plain_pairs taken_event (firsts e.0)) (map unranged front.0) (unranged_reading (reading_view c.args.reading)) s h.standing whole
    (λ ok. ap (map unranged) (front.2 ok))
    (rw (walk_unranged taken_event how source [] s (firsts e.0), ← came) e.2)
    (rw (walk_unranged taken_event how source [] s (firsts e.0), ← came, length-map) e.3)
