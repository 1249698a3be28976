use Rattle.tocmark_text_laws.proofs.TightIdle.{no_idle}
use Rattle.tocmark_text_laws.proofs.loose.no_blank_line_is_idle.Goals as goal

pub returns : goal.returns
returns c = no_idle
