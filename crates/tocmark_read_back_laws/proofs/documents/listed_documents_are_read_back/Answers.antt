use Rattle.tocmark_read_back_laws.proofs.LaidReadings.{listed_documents_read_back}
use Rattle.tocmark_read_back_laws.proofs.documents.listed_documents_are_read_back.Goals as goal

pub returns : goal.returns
returns c = listed_documents_read_back
