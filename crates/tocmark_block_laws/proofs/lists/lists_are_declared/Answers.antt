use Rattle.tocmark_block_laws.proofs.ListTexts.{lists-declared}
use Rattle.tocmark_block_laws.proofs.lists.lists_are_declared.Goals as goal

pub returns : goal.returns
returns c = lists-declared
