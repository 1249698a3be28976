use Rattle.tocmark_laws.proofs.BreakReading.{breaks_read}
use Rattle.tocmark_laws.proofs.constructs.hard_breaks_are_read.Goals as goal

pub returns : goal.returns
returns c syntax l ms plain fits = breaks_read syntax l ms plain fits
