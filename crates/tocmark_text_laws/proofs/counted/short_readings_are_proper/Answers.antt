use Rattle.tocmark_text_laws.proofs.ShortTexts.{short_proper}
use Rattle.tocmark_text_laws.proofs.counted.short_readings_are_proper.Goals as goal

pub returns : goal.returns
returns c = short_proper
