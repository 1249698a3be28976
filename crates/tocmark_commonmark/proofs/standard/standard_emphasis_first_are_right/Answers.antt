use Rattle.tocmark_commonmark.proofs.StandardEmphasisFirst.{standard-emphasis-first-right}
use Rattle.tocmark_commonmark.proofs.standard.standard_emphasis_first_are_right.Goals as goal

pub returns : goal.returns
returns c = standard-emphasis-first-right
