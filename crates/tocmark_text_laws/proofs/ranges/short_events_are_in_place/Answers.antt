use Rattle.tocmark_text_laws.proofs.EventPlaces.{short_in_place}
use Rattle.tocmark_text_laws.proofs.ranges.short_events_are_in_place.Goals as goal

pub returns : goal.returns
returns c = short_in_place
