use Rattle.tocmark_commonmark.proofs.StandardCodeSecond.{standard-code-second-right}
use Rattle.tocmark_commonmark.proofs.standard.standard_code_second_are_right.Goals as goal

pub returns : goal.returns
returns c = standard-code-second-right
