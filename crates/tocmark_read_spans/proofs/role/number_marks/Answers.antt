use Rattle.tocmark_read_spans.proofs.Marks.{numbered_step}
use Rattle.tocmark_read_spans.proofs.role.number_marks.Goals as goal

pub loop-at-preserved : goal.loop-at-preserved
loop-at-preserved c = numbered_step _ _ _ _ _ _ c.loop-at-test.true c.loop-at.invariant c.set.ensures
