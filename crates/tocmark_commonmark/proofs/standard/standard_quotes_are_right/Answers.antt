use Rattle.tocmark_commonmark.proofs.StandardQuotes.{standard-quotes-right}
use Rattle.tocmark_commonmark.proofs.standard.standard_quotes_are_right.Goals as goal

pub returns : goal.returns
returns c = standard-quotes-right
