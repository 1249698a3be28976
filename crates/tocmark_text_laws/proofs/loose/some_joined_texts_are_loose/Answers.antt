use Rattle.tocmark_text_laws.proofs.LooseRows.{joins}
use Rattle.tocmark_text_laws.proofs.loose.some_joined_texts_are_loose.Goals as goal

pub returns : goal.returns
returns c = joins
