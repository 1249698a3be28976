use Rattle.tocmark_commonmark.proofs.StandardDefinitionsSecond.{standard-definitions-second-right}
use Rattle.tocmark_commonmark.proofs.standard.standard_definitions_second_are_right.Goals as goal

pub returns : goal.returns
returns c = standard-definitions-second-right
