use Rattle.tocmark_laws.proofs.DocumentsReadBack.{plain_read_back}
use Rattle.tocmark_laws.proofs.documents.plain_documents_are_read_back.Goals as goal

pub returns : goal.returns
returns c options reading flags source b bs off token h = plain_read_back options reading flags source b bs off token h
