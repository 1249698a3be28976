use Rattle.tocmark_laws.proofs.QuoteKinds.{kinds_read}
use Rattle.tocmark_laws.proofs.extensions.quote_kinds_are_read.Goals as goal

pub returns : goal.returns
returns c syntax k words has plain fits = kinds_read syntax k words has plain fits
