use Rattle.tocmark_laws.proofs.Paragraphs.{read_back}
use Rattle.tocmark_laws.proofs.walk.a_paragraph_is_read_back.Goals as goal

pub returns : goal.returns
returns c options reading flags source text off star utf8 clean =
    read_back options reading flags off source text (λ place same. c.escapes_read_back.ensures.texts place text (rw same star) utf8 clean)
