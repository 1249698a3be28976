use Rattle.tocmark_range_laws.proofs.Texts.{lines_lie}
use Rattle.tocmark_range_laws.proofs.within.lines_lie_in_their_blocks.Goals as goal

pub returns : goal.returns
returns c = lines_lie
