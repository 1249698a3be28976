use Rattle.tocmark_commonmark.proofs.StandardItemsSecond.{standard-items-second-right}
use Rattle.tocmark_commonmark.proofs.standard.standard_items_second_are_right.Goals as goal

pub returns : goal.returns
returns c = standard-items-second-right
