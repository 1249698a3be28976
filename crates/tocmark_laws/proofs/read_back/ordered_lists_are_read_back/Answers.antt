use Rattle.tocmark_laws.proofs.ListsReadBack.{numbers_read_back}
use Rattle.tocmark_laws.proofs.read_back.ordered_lists_are_read_back.Goals as goal

pub returns : goal.returns
returns c options number l ms plain delimiter few h reading flags source = numbers_read_back options number l ms plain delimiter few h reading flags source
