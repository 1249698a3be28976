use Rattle.tocmark_standard_laws.proofs.Contents.{contents-declared}
use Rattle.tocmark_standard_laws.proofs.inlines.contents_are_declared.Goals as goal

pub returns : goal.returns
returns c = contents-declared
