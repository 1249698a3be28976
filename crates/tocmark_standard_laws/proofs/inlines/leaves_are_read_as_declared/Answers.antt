use Rattle.tocmark_standard_laws.proofs.Leaves.{leaves-declared}
use Rattle.tocmark_standard_laws.proofs.inlines.leaves_are_read_as_declared.Goals as goal

pub returns : goal.returns
returns c = leaves-declared
