use Rattle.tocmark_text_laws.proofs.ItemRun.{item_blocks}
use Rattle.tocmark_text_laws.proofs.items.marks_make_an_item.Goals as goal

pub returns : goal.returns
returns c = item_blocks
