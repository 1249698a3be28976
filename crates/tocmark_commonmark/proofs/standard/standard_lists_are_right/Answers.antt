use Rattle.tocmark_commonmark.proofs.StandardLists.{standard-lists-right}
use Rattle.tocmark_commonmark.proofs.standard.standard_lists_are_right.Goals as goal

pub returns : goal.returns
returns c = standard-lists-right
