use Rattle.test_definitions.proofs.EdgesOfLinks.{edges_of_links-written}
use Rattle.test_definitions.proofs.written.edges_of_links_are_written.Goals as goal

pub returns : goal.returns
returns c = edges_of_links-written
