use Rattle.tocmark_commonmark.proofs.StandardEmphasisThird.{standard-emphasis-third-right}
use Rattle.tocmark_commonmark.proofs.standard.standard_emphasis_third_are_right.Goals as goal

pub returns : goal.returns
returns c = standard-emphasis-third-right
