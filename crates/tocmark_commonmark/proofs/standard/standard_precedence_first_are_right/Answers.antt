use Rattle.tocmark_commonmark.proofs.StandardPrecedenceFirst.{standard-precedence-first-right}
use Rattle.tocmark_commonmark.proofs.standard.standard_precedence_first_are_right.Goals as goal

pub returns : goal.returns
returns c = standard-precedence-first-right
