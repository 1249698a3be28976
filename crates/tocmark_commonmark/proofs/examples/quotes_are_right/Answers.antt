use Rattle.tocmark_commonmark.proofs.ExamplesOfQuotes.{quotes-right}
use Rattle.tocmark_commonmark.proofs.examples.quotes_are_right.Goals as goal

pub returns : goal.returns
returns c = quotes-right
