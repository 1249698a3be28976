use Rattle.tocmark_laws.proofs.QuotesReadBack.{quotes_read_back}
use Rattle.tocmark_laws.proofs.read_back.quotes_are_read_back.Goals as goal

pub returns : goal.returns
returns c options l ms plain h reading flags source = quotes_read_back options l ms plain h reading flags source
