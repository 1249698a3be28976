use Rattle.tocmark_text_laws.proofs.SequenceRows.{rows}
use Rattle.tocmark_text_laws.proofs.sequence.some_texts_go_on.Goals as goal

pub returns : goal.returns
returns c = rows
