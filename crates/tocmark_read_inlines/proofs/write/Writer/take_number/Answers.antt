use Rattle.std.proofs.lemmas.Result.{on_ok_weaker}
use Rattle.tocmark_read_inlines.proofs.Sparse.{mark_taken, mark_reached}
use Rattle.tocmark_read_inlines.proofs.write.Writer.take_number.Goals as goal

pub returns-clause-role : goal.returns-clause-role
returns-clause-role c = on_ok_weaker c.step_to.result (λ h. mark_taken _ _ _ _ _ c.role_at.ensures c.requires.1 h) c.step_to.ensures

pub returns-clause-place : goal.returns-clause-place
returns-clause-place c = on_ok_weaker c.step_to.result (λ h. mark_reached _ _ _ _ c.requires.1 h) c.step_to.ensures
