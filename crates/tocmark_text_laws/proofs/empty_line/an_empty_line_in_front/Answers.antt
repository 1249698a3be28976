use Rattle.tocmark_text_laws.proofs.Front.{front}
use Rattle.tocmark_text_laws.proofs.empty_line.an_empty_line_in_front.Goals as goal

pub returns : goal.returns
returns c = front
