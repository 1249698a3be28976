use Rattle.tocmark_laws.proofs.TaskItems.{task_read}
use Rattle.tocmark_laws.proofs.extensions.tasks_are_read.Goals as goal

pub returns : goal.returns
returns c syntax done phrase has words fits = task_read syntax done phrase has words fits
