use Rattle.tocmark_text_laws.proofs.Assembling.{readings_proper}
use Rattle.tocmark_text_laws.proofs.texts.readings_are_proper.Goals as goal

pub returns : goal.returns
returns c = readings_proper
