use Rattle.tocmark_read_back_laws.proofs.DeclaredContents.{contents_declared}
use Rattle.tocmark_read_back_laws.proofs.contents.plain_contents_are_declared.Goals as goal

pub returns : goal.returns
returns c = contents_declared
