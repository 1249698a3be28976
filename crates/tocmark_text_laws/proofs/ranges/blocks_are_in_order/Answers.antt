use Rattle.tocmark_text_laws.proofs.NestRun.{blocks_ordered}
use Rattle.tocmark_text_laws.proofs.ranges.blocks_are_in_order.Goals as goal

pub returns : goal.returns
returns c = blocks_ordered
