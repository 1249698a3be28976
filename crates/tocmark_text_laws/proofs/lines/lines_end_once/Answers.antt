use Rattle.tocmark_text_laws.proofs.Endings.{lines-end}
use Rattle.tocmark_text_laws.proofs.lines.lines_end_once.Goals as goal

pub returns : goal.returns
returns c = lines-end
