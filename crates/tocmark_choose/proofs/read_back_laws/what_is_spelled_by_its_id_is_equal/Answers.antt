use Rattle.tocmark_choose.proofs.EqualEvents.{by-id-equal, by-id-exact}
use Rattle.tocmark_choose.proofs.read_back_laws.what_is_spelled_by_its_id_is_equal.Goals as goal

pub returns-clause-equal : goal.returns-clause-equal
returns-clause-equal c = by-id-equal

pub returns-clause-exact : goal.returns-clause-exact
returns-clause-exact c = by-id-exact
