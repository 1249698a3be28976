use Rattle.tocmark_laws.proofs.TasksReadBack.{tasks_read_back}
use Rattle.tocmark_laws.proofs.read_back.tasks_are_read_back.Goals as goal

pub returns : goal.returns
returns c options done phrase plain hyphen h k reading flags source = tasks_read_back options done phrase plain hyphen h k reading flags source
