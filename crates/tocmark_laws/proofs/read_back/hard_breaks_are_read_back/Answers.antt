use Rattle.tocmark_laws.proofs.BreaksReadBack.{breaks_read_back}
use Rattle.tocmark_laws.proofs.read_back.hard_breaks_are_read_back.Goals as goal

pub returns : goal.returns
returns c options l ms plain h reading flags source = breaks_read_back options l ms plain h reading flags source
