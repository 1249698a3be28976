use Rattle.tocmark_text_laws.proofs.InlinePlaces.{inlines_lie}
use Rattle.tocmark_text_laws.proofs.ranges.inlines_lie_in_their_lines.Goals as goal

pub returns : goal.returns
returns c = inlines_lie
