use Rattle.tocmark_text_laws.proofs.Moved.{moves}
use Rattle.tocmark_text_laws.proofs.empty_line.empty_lines_in_front.Goals as goal

pub returns : goal.returns
returns c = moves
