use Rattle.test_definitions.proofs.Paragraphs.{third_units-tried}
use Rattle.test_definitions.proofs.tried.third_units_are_tried.Goals as goal

pub returns : goal.returns
returns c = third_units-tried
