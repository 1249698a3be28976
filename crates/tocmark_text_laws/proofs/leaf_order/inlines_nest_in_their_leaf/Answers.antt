use Rattle.tocmark_text_laws.proofs.SourceNest.{nest_in_leaf}
use Rattle.tocmark_text_laws.proofs.leaf_order.inlines_nest_in_their_leaf.Goals as goal

pub returns : goal.returns
returns c = nest_in_leaf
