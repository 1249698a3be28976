use Rattle.tocmark_text_laws.proofs.InlineOrder.{some_inlines}
use Rattle.tocmark_text_laws.proofs.leaf_order.some_inlines_are_in_order.Goals as goal

pub returns : goal.returns
returns c = some_inlines
