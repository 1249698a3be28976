use Rattle.tocmark_compare.proofs.SameIsEqual.{same-equal, equal-same}
use Rattle.tocmark_compare.proofs.laws.same_events_are_equal.Goals as goal

pub returns-clause-equal : goal.returns-clause-equal
returns-clause-equal c = same-equal

pub returns-clause-same : goal.returns-clause-same
returns-clause-same c = equal-same
