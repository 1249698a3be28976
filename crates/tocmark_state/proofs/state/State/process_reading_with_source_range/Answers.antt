use Rattle.std.proofs.Common.{IsOk, map, ◌∙◌}
use Rattle.std.proofs.lemmas.List.{length-map}
use Rattle.tocmark_event.specs.Reading.{reading_view}
use Rattle.tocmark_state.specs.StateView.{place_of, rendering_of}
use Rattle.tocmark_state.specs.Taken.{ranged_reading, taken_pair, taken_pairs_left}
use Rattle.tocmark_state.proofs.Readings.{Adds-all, all_pairs, front_taken}
use Rattle.tocmark_state.proofs.state.State.process_reading_with_source_range.Goals as goal

pub returns-clause-active : goal.returns-clause-active
returns-clause-active g c = λ flags p h.
    let e = c.process_pairs.ensures.active h.active in
    let how = rendering_of g.R.Reader.reading c.args.self.now in
    let s = place_of c.args.self.now in
    let r = c.process_pairs.result in
    let front = front_taken taken_pair taken_pairs_left (IsOk r) e.0 _ e.1 in
    let whole = all_pairs c.args.reading.events.items _ (c.iter_mut.ensures.rest ∙ c.deref_mut.ensures.value ∙ c.listed-events.ensures) e.0 front.0 front.1 in
    Adds-all g.W.Taker.takes g.W.Taker.refuses c.args.writer.now c.process_pairs.new.writer how flags c.args.source.now r (place_of c.process_pairs.new.self) p (map taken_pair e.0) front.0 (ranged_reading (reading_view c.args.reading)) s h.standing whole front.2 e.2 (rw length-map e.3)
