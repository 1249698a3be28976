use Rattle.tocmark_text_laws.proofs.InlinePlaces.{inlines_placed}
use Rattle.tocmark_text_laws.proofs.ranges.inlines_are_in_place.Goals as goal

pub returns : goal.returns
returns c = inlines_placed
