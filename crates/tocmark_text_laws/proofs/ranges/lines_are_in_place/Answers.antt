use Rattle.tocmark_text_laws.proofs.InPlace.{lines_in_place}
use Rattle.tocmark_text_laws.proofs.ranges.lines_are_in_place.Goals as goal

pub returns : goal.returns
returns c = lines_in_place
