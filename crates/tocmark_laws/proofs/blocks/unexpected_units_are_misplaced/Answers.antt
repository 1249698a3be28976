use Rattle.tocmark_laws.proofs.Unexpected.{misplaced-unit, unit-misplaced}
use Rattle.tocmark_laws.proofs.blocks.unexpected_units_are_misplaced.Goals as goal

pub returns-clause-causes : goal.returns-clause-causes
returns-clause-causes c = unit-misplaced

pub returns-clause-exact : goal.returns-clause-exact
returns-clause-exact c = misplaced-unit
