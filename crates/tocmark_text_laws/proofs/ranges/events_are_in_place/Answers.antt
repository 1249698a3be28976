use Rattle.tocmark_text_laws.proofs.EventPlaces.{all_in_place}
use Rattle.tocmark_text_laws.proofs.ranges.events_are_in_place.Goals as goal

pub returns : goal.returns
returns c = all_in_place
