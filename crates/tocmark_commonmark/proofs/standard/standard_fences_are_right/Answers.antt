use Rattle.tocmark_commonmark.proofs.StandardFences.{standard-fences-right}
use Rattle.tocmark_commonmark.proofs.standard.standard_fences_are_right.Goals as goal

pub returns : goal.returns
returns c = standard-fences-right
