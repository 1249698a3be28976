use Rattle.tocmark_commonmark.proofs.StandardSetextFirst.{standard-setext-first-right}
use Rattle.tocmark_commonmark.proofs.standard.standard_setext_first_are_right.Goals as goal

pub returns : goal.returns
returns c = standard-setext-first-right
