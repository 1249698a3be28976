use Rattle.tocmark_standard_laws.proofs.Ended.{events-said}
use Rattle.tocmark_standard_laws.proofs.events.declared_events_are_said.Goals as goal

pub returns : goal.returns
returns c = events-said
