use Rattle.tocmark_text_laws.proofs.InPlace.{blocks_in_place}
use Rattle.tocmark_text_laws.proofs.ranges.blocks_are_in_place.Goals as goal

pub returns : goal.returns
returns c = blocks_in_place
