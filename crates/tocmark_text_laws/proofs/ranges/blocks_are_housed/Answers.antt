use Rattle.tocmark_text_laws.proofs.HouseWalk.{blocks_housed}
use Rattle.tocmark_text_laws.proofs.ranges.blocks_are_housed.Goals as goal

pub returns : goal.returns
returns c = blocks_housed
