use Rattle.tocmark_text_laws.proofs.TightIdle.{none_loose}
use Rattle.tocmark_text_laws.proofs.loose.no_idle_line_no_loose_list.Goals as goal

pub returns : goal.returns
returns c = none_loose
