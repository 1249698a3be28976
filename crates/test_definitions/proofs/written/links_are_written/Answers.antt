use Rattle.test_definitions.proofs.Links.{links-written}
use Rattle.test_definitions.proofs.written.links_are_written.Goals as goal

pub returns : goal.returns
returns c = links-written
