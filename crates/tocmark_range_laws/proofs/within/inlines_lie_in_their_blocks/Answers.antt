use Rattle.tocmark_range_laws.proofs.Texts.{inlines_are_in}
use Rattle.tocmark_range_laws.proofs.within.inlines_lie_in_their_blocks.Goals as goal

pub returns : goal.returns
returns c = inlines_are_in
