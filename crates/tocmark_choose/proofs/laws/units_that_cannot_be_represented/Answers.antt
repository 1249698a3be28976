use Rattle.tocmark_choose.proofs.Unrepresentable.{unrepresentable-causes, unrepresentable-exact}
use Rattle.tocmark_choose.proofs.laws.units_that_cannot_be_represented.Goals as goal

pub returns-clause-causes : goal.returns-clause-causes
returns-clause-causes c = unrepresentable-causes

pub returns-clause-exact : goal.returns-clause-exact
returns-clause-exact c = unrepresentable-exact
