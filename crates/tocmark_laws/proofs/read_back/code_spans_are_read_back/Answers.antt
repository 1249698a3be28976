use Rattle.tocmark_laws.proofs.CodeSpansReadBack.{spans_read_back}
use Rattle.tocmark_laws.proofs.read_back.code_spans_are_read_back.Goals as goal

pub returns : goal.returns
returns c options code off h reading flags source = spans_read_back options code off h reading flags source
