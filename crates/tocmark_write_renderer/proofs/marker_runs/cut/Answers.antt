use Rattle.std.proofs.Common.{◌∙◌, ap, reverse}
use Rattle.tocmark_write_renderer.specs.RunsOf.{cut_at}
use Rattle.tocmark_write_renderer.proofs.Notes.{cut-here}
use Rattle.tocmark_write_renderer.proofs.marker_runs.cut.Goals as goal

pub returns-then-run-place : goal.returns-then-run-place
returns-then-run-place c =
    let at = c.loop-count in
    cut-here at.runs.items c.truncate.new.self.items at.count c.args.place c.min.result c.index-run.result.now c.index_mut.result.now c.loop-count-test.true at.invariant.within c.truncate.ensures.items c.index-run.ensures c.index_mut.ensures.value c.if-run-place.true c.min.ensures
    ∙ at.invariant.behind
    ∙ ap (λ x. cut_at c.args.place (reverse x)) at.invariant.same
