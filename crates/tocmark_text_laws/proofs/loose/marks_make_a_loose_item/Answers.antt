use Rattle.tocmark_text_laws.proofs.LooseRun.{loose_item}
use Rattle.tocmark_text_laws.proofs.loose.marks_make_a_loose_item.Goals as goal

pub returns : goal.returns
returns c = loose_item
