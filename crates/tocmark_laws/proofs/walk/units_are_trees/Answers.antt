use Rattle.tocmark_laws.specs.Trees.{ranged}
use Rattle.tocmark_laws.proofs.Trees.{trees_of, walk_is}
use Rattle.tocmark_laws.proofs.walk.units_are_trees.Goals as goal

pub returns : goal.returns
returns c how source kept p = (trees_of (ranged source 0 p).events, walk_is how source kept p (trees_of (ranged source 0 p).events))
