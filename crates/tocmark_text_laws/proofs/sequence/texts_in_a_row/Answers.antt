use Rattle.tocmark_text_laws.proofs.SequenceRun.{texts_row}
use Rattle.tocmark_text_laws.proofs.sequence.texts_in_a_row.Goals as goal

pub returns : goal.returns
returns c = texts_row
