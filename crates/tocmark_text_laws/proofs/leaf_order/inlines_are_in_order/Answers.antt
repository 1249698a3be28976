use Rattle.tocmark_text_laws.proofs.InlineOrder.{inlines_ordered}
use Rattle.tocmark_text_laws.proofs.leaf_order.inlines_are_in_order.Goals as goal

pub returns : goal.returns
returns c = inlines_ordered
