use Rattle.tocmark_commonmark.proofs.StandardSetextSecond.{standard-setext-second-right}
use Rattle.tocmark_commonmark.proofs.standard.standard_setext_second_are_right.Goals as goal

pub returns : goal.returns
returns c = standard-setext-second-right
