use Rattle.test_definitions.proofs.Paragraphs.{second_units-tried}
use Rattle.test_definitions.proofs.tried.second_units_are_tried.Goals as goal

pub returns : goal.returns
returns c = second_units-tried
