use Rattle.tocmark_commonmark.proofs.StandardEmphasisFifth.{standard-emphasis-fifth-right}
use Rattle.tocmark_commonmark.proofs.standard.standard_emphasis_fifth_are_right.Goals as goal

pub returns : goal.returns
returns c = standard-emphasis-fifth-right
