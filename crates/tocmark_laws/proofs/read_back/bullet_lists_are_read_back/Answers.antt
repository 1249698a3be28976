use Rattle.tocmark_laws.proofs.ListsReadBack.{bullets_read_back}
use Rattle.tocmark_laws.proofs.read_back.bullet_lists_are_read_back.Goals as goal

pub returns : goal.returns
returns c options l ms plain bullet h reading flags source = bullets_read_back options l ms plain bullet h reading flags source
