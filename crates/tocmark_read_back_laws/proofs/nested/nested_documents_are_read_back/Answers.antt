use Rattle.tocmark_read_back_laws.proofs.NestedReadings.{nested_documents_read_back}
use Rattle.tocmark_read_back_laws.proofs.nested.nested_documents_are_read_back.Goals as goal

pub returns : goal.returns
returns c = nested_documents_read_back
