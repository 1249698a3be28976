use Rattle.tocmark_read_back_laws.proofs.LaidReadings.{documents_read_back}
use Rattle.tocmark_read_back_laws.proofs.documents.whole_documents_are_read_back.Goals as goal

pub returns : goal.returns
returns c = documents_read_back
