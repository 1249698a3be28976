use Rattle.tocmark_text_laws.proofs.NestRun.{blocks_nested}
use Rattle.tocmark_text_laws.proofs.ranges.blocks_nest.Goals as goal

pub returns : goal.returns
returns c = blocks_nested
