use Rattle.tocmark_standard_laws.proofs.FlatBlocks.{tree-said}
use Rattle.tocmark_standard_laws.proofs.events.blocks_say_their_tree.Goals as goal

pub returns : goal.returns
returns c = tree-said
