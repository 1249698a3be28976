use Rattle.tocmark_laws.proofs.PartedReading.{parted_read}
use Rattle.tocmark_laws.proofs.constructs.parted_quotes_are_read.Goals as goal

pub returns : goal.returns
returns c syntax l ms plain fits = parted_read syntax l ms plain fits
