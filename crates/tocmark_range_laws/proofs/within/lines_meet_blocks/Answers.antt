use Rattle.tocmark_range_laws.proofs.Texts.{lines_meet}
use Rattle.tocmark_range_laws.proofs.within.lines_meet_blocks.Goals as goal

pub returns : goal.returns
returns c = lines_meet
