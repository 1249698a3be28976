use Rattle.tocmark_inline_laws.proofs.EachToken.{all_local}
use Rattle.tocmark_inline_laws.proofs.spans.inlines_are_local.Goals as goal

pub returns : goal.returns
returns c = all_local
