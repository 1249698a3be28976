use Rattle.tocmark_laws.proofs.QuoteReading.{quotes_read}
use Rattle.tocmark_laws.proofs.constructs.quotes_are_read.Goals as goal

pub returns : goal.returns
returns c syntax l ms plain fits = quotes_read syntax l ms plain fits
