use Rattle.tocmark_commonmark.proofs.ExamplesOfLists.{lists-right}
use Rattle.tocmark_commonmark.proofs.examples.lists_are_right.Goals as goal

pub returns : goal.returns
returns c = lists-right
