use Rattle.test_definitions.proofs.Manners.{manners-spelt}
use Rattle.test_definitions.proofs.written.manners_are_spelt.Goals as goal

pub returns : goal.returns
returns c = manners-spelt
