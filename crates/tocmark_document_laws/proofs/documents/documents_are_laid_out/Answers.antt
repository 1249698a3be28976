use Rattle.tocmark_document_laws.proofs.DocumentsLaidOut.{documents_laid_out}
use Rattle.tocmark_document_laws.proofs.documents.documents_are_laid_out.Goals as goal

pub returns : goal.returns
returns c options reading flags source f off tokens bullet h = documents_laid_out options reading flags source f off tokens bullet h
