use Rattle.tocmark_range_laws.proofs.Texts.{lines_found}
use Rattle.tocmark_range_laws.proofs.within.lines_are_found.Goals as goal

pub returns : goal.returns
returns c = lines_found
