use Rattle.tocmark_commonmark.proofs.StandardDefinitionsFirst.{standard-definitions-first-right}
use Rattle.tocmark_commonmark.proofs.standard.standard_definitions_first_are_right.Goals as goal

pub returns : goal.returns
returns c = standard-definitions-first-right
