use Rattle.tocmark_commonmark.proofs.StandardEmphasisSecond.{standard-emphasis-second-right}
use Rattle.tocmark_commonmark.proofs.standard.standard_emphasis_second_are_right.Goals as goal

pub returns : goal.returns
returns c = standard-emphasis-second-right
