use Rattle.tocmark_choose.proofs.PlainUnits.{choice-unasked}
use Rattle.tocmark_choose.proofs.laws.units_without_delimiters_are_preferred.Goals as goal

pub returns : goal.returns
returns c = choice-unasked
