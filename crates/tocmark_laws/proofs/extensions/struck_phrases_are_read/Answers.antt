use Rattle.tocmark_laws.proofs.StrikethroughReading.{struck_read}
use Rattle.tocmark_laws.proofs.extensions.struck_phrases_are_read.Goals as goal

pub returns : goal.returns
returns c syntax phrase strike is fits = struck_read syntax phrase strike is fits
