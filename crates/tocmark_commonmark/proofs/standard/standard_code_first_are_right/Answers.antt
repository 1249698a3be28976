use Rattle.tocmark_commonmark.proofs.StandardCodeFirst.{standard-code-first-right}
use Rattle.tocmark_commonmark.proofs.standard.standard_code_first_are_right.Goals as goal

pub returns : goal.returns
returns c = standard-code-first-right
