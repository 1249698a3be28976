use Rattle.tocmark_inline_laws.proofs.EachToken.{all_declared}
use Rattle.tocmark_inline_laws.proofs.spans.contents_are_read_as_declared.Goals as goal

pub returns : goal.returns
returns c = all_declared
