use Rattle.tocmark_laws.proofs.DocumentRowsWritten.{read_back}
use Rattle.tocmark_laws.proofs.documents.documents_are_read_back.Goals as goal

pub returns : goal.returns
returns c options reading flags source b bs off token h = read_back options reading flags source b bs off token h
