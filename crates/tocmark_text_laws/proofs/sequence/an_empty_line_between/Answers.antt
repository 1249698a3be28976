use Rattle.tocmark_text_laws.proofs.SequenceBlank.{blank_between}
use Rattle.tocmark_text_laws.proofs.sequence.an_empty_line_between.Goals as goal

pub returns : goal.returns
returns c = blank_between
