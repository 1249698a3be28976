use Rattle.tocmark_commonmark.proofs.StandardEmphasisFourth.{standard-emphasis-fourth-right}
use Rattle.tocmark_commonmark.proofs.standard.standard_emphasis_fourth_are_right.Goals as goal

pub returns : goal.returns
returns c = standard-emphasis-fourth-right
