use Rattle.tocmark_laws.proofs.OrderedReading.{ordered_read}
use Rattle.tocmark_laws.proofs.constructs.ordered_lists_are_read.Goals as goal

pub returns : goal.returns
returns c syntax delimiter i is marks plain fits = ordered_read syntax delimiter i is marks plain fits
