use Rattle.tocmark_commonmark.proofs.ExamplesOfItems.{items-right}
use Rattle.tocmark_commonmark.proofs.examples.items_are_right.Goals as goal

pub returns : goal.returns
returns c = items-right
