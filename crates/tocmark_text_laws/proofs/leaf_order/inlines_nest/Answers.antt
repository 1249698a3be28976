use Rattle.tocmark_text_laws.proofs.SourceNest.{source_nest}
use Rattle.tocmark_text_laws.proofs.leaf_order.inlines_nest.Goals as goal

pub returns : goal.returns
returns c = source_nest
