use Rattle.tocmark_laws.proofs.Paragraphs.{span_read_back}
use Rattle.tocmark_laws.proofs.walk.a_code_span_is_read_back.Goals as goal

pub returns : goal.returns
returns c options reading flags source text off =
    span_read_back options reading flags off source text (c.code_spans_read_back.ensures text)
