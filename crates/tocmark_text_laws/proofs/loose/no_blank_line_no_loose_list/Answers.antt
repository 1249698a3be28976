use Rattle.tocmark_text_laws.proofs.TightIdle.{no_loose}
use Rattle.tocmark_text_laws.proofs.loose.no_blank_line_no_loose_list.Goals as goal

pub returns : goal.returns
returns c = no_loose
