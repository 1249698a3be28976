use Rattle.std.proofs.lemmas.List.{length-map}
use Rattle.tocmark_state.specs.WorkView.{ranged_pairs}
use Rattle.tocmark_state.specs.StateView.{place_of, rendering_of}
use Rattle.tocmark_state.proofs.Runs.{Adds-from}
use Rattle.tocmark_state.proofs.state.State.process_with_source_range.Goals as goal

pub returns-clause-active : goal.returns-clause-active
returns-clause-active g c a =
    let e = c.process_pairs.ensures.active a in
    let how = rendering_of g.R.Reader.reading c.args.self.now in
    let s = place_of c.args.self.now in (
      c.into_iter.result,
      e.0,
      c.into_iter.ensures.into_iter_gives,
      e.1,
      λ flags p h. Adds-from g.W.Taker.takes g.W.Taker.refuses c.args.writer.now c.process_pairs.new.writer how flags c.args.source.now c.process_pairs.result (place_of c.process_pairs.new.self) p (ranged_pairs e.0) s h.standing e.2 (rw length-map e.3),
    )
