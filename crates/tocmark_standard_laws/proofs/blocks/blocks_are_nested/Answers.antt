use Rattle.tocmark_standard_laws.proofs.FitWalk.{blocks-nested}
use Rattle.tocmark_standard_laws.proofs.blocks.blocks_are_nested.Goals as goal

pub returns : goal.returns
returns c = blocks-nested
