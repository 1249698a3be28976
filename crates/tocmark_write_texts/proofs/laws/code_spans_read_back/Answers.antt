use Rattle.tocmark_write_texts.proofs.SpanReads.{code_span-read}
use Rattle.tocmark_write_texts.proofs.laws.code_spans_read_back.Goals as goal

pub returns : goal.returns
returns c = code_span-read
