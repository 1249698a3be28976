use Rattle.tocmark_laws.proofs.CodeSpanReading.{span_read}
use Rattle.tocmark_laws.proofs.constructs.code_spans_are_read.Goals as goal

pub returns : goal.returns
returns c syntax code h fits = span_read syntax code h fits
