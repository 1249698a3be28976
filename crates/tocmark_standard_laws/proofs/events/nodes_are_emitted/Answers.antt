use Rattle.tocmark_standard_laws.proofs.Shown.{nodes_emitted}
use Rattle.tocmark_standard_laws.proofs.events.nodes_are_emitted.Goals as goal

pub returns : goal.returns
returns c = nodes_emitted
