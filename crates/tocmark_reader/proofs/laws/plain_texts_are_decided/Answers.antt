use Rattle.tocmark_reader.proofs.PlainDecided.{plain_decided}
use Rattle.tocmark_reader.proofs.laws.plain_texts_are_decided.Goals as goal

pub returns : goal.returns
returns c text = plain_decided text
