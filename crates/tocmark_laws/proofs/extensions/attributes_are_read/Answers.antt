use Rattle.tocmark_laws.proofs.AttributedHeadings.{attributes_read}
use Rattle.tocmark_laws.proofs.extensions.attributes_are_read.Goals as goal

pub returns : goal.returns
returns c syntax phrase id has words names fits = attributes_read syntax phrase id has words names fits
