use Rattle.tocmark_choose.proofs.Unrepresentable.{at-most-two}
use Rattle.tocmark_choose.proofs.laws.plain_units_have_two_candidates.Goals as goal

pub returns : goal.returns
returns c = at-most-two
