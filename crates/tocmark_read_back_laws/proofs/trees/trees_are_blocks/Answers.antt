use Rattle.tocmark_read_back_laws.proofs.ReadTrees.{trees_blocks}
use Rattle.tocmark_read_back_laws.proofs.trees.trees_are_blocks.Goals as goal

pub returns : goal.returns
returns c = trees_blocks
