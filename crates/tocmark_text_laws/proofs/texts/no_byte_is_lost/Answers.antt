use Rattle.tocmark_text_laws.proofs.NothingLost.{nothing_lost}
use Rattle.tocmark_text_laws.proofs.texts.no_byte_is_lost.Goals as goal

pub returns : goal.returns
returns c = nothing_lost
