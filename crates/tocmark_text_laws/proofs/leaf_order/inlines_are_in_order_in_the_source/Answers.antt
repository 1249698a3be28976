use Rattle.tocmark_text_laws.proofs.SourceNest.{source_order}
use Rattle.tocmark_text_laws.proofs.leaf_order.inlines_are_in_order_in_the_source.Goals as goal

pub returns : goal.returns
returns c = source_order
