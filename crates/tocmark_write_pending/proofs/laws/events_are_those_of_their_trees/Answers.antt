use Rattle.tocmark_write_pending.proofs.Balanced.{flat-of-trees}
use Rattle.tocmark_write_pending.proofs.laws.events_are_those_of_their_trees.Goals as goal

pub returns : goal.returns
returns c = flat-of-trees
