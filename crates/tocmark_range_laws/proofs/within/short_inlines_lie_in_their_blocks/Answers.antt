use Rattle.tocmark_range_laws.proofs.Texts.{short_inlines}
use Rattle.tocmark_range_laws.proofs.within.short_inlines_lie_in_their_blocks.Goals as goal

pub returns : goal.returns
returns c = short_inlines
