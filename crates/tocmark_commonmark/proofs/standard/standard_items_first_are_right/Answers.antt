use Rattle.tocmark_commonmark.proofs.StandardItemsFirst.{standard-items-first-right}
use Rattle.tocmark_commonmark.proofs.standard.standard_items_first_are_right.Goals as goal

pub returns : goal.returns
returns c = standard-items-first-right
