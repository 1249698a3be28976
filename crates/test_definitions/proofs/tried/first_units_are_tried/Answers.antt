use Rattle.test_definitions.proofs.Paragraphs.{first_units-tried}
use Rattle.test_definitions.proofs.tried.first_units_are_tried.Goals as goal

pub returns : goal.returns
returns c = first_units-tried
