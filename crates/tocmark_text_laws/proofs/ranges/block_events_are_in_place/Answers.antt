use Rattle.tocmark_text_laws.proofs.BlockNodes.{events_in_place}
use Rattle.tocmark_text_laws.proofs.ranges.block_events_are_in_place.Goals as goal

pub returns : goal.returns
returns c = events_in_place
