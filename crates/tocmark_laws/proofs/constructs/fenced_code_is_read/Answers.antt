use Rattle.tocmark_laws.proofs.CodeReading.{code_read}
use Rattle.tocmark_laws.proofs.constructs.fenced_code_is_read.Goals as goal

pub returns : goal.returns
returns c syntax code plain fits = code_read syntax code plain fits
