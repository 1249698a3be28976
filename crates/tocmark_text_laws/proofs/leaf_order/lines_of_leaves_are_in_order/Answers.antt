use Rattle.tocmark_text_laws.proofs.Rising.{lines_in_order}
use Rattle.tocmark_text_laws.proofs.leaf_order.lines_of_leaves_are_in_order.Goals as goal

pub returns : goal.returns
returns c = lines_in_order
