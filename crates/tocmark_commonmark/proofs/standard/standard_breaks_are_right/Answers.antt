use Rattle.tocmark_commonmark.proofs.StandardBreaks.{standard-breaks-right}
use Rattle.tocmark_commonmark.proofs.standard.standard_breaks_are_right.Goals as goal

pub returns : goal.returns
returns c = standard-breaks-right
