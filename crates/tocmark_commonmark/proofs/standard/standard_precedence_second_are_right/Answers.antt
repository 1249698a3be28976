use Rattle.tocmark_commonmark.proofs.StandardPrecedenceSecond.{standard-precedence-second-right}
use Rattle.tocmark_commonmark.proofs.standard.standard_precedence_second_are_right.Goals as goal

pub returns : goal.returns
returns c = standard-precedence-second-right
