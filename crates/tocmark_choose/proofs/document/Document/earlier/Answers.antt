use Rattle.std.proofs.Common.{refl}
use Rattle.tocmark_choose.proofs.document.Document.earlier.Goals as goal

pub returns : goal.returns
returns c here = refl
