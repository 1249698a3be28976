use Rattle.tocmark_choose.proofs.EqualEvents.{read-back-equal, read-back-exact}
use Rattle.tocmark_choose.proofs.read_back_laws.what_reads_back_is_equal.Goals as goal

pub returns-clause-equal : goal.returns-clause-equal
returns-clause-equal c = read-back-equal

pub returns-clause-exact : goal.returns-clause-exact
returns-clause-exact c = read-back-exact
