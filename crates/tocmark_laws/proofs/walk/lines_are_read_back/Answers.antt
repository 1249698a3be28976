use Rattle.tocmark_laws.proofs.PlainDocument.{plain_read_back}
use Rattle.tocmark_laws.proofs.walk.lines_are_read_back.Goals as goal

pub returns : goal.returns
returns c options reading flags source l ms off token lines = plain_read_back options reading flags off token source l ms lines
