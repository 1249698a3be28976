use Rattle.tocmark_block_laws.proofs.Read.{quotes-declared}
use Rattle.tocmark_block_laws.proofs.quotes.quotes_are_declared.Goals as goal

pub returns : goal.returns
returns c = quotes-declared
