use Rattle.tocmark_text_laws.proofs.LooseRows.{singles}
use Rattle.tocmark_text_laws.proofs.loose.some_single_blocks_are_tight.Goals as goal

pub returns : goal.returns
returns c = singles
