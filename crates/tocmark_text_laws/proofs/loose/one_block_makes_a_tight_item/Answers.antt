use Rattle.tocmark_text_laws.proofs.OneBlock.{one_block}
use Rattle.tocmark_text_laws.proofs.loose.one_block_makes_a_tight_item.Goals as goal

pub returns : goal.returns
returns c = one_block
