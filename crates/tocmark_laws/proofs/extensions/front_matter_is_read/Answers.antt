use Rattle.tocmark_laws.proofs.FrontMatterReading.{front_matter_read}
use Rattle.tocmark_laws.proofs.extensions.front_matter_is_read.Goals as goal

pub returns : goal.returns
returns c syntax k l ms has fields fits = front_matter_read syntax k l ms has fields fits
