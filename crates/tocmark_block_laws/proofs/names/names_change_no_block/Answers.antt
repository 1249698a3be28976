use Rattle.tocmark_block_laws.proofs.NamedBlocks.{names-change-none}
use Rattle.tocmark_block_laws.proofs.names.names_change_no_block.Goals as goal

pub returns : goal.returns
returns c = names-change-none
