use Rattle.tocmark_text_laws.proofs.SourceOrder.{inlines_follow}
use Rattle.tocmark_text_laws.proofs.leaf_order.inlines_follow_the_source.Goals as goal

pub returns : goal.returns
returns c = inlines_follow
