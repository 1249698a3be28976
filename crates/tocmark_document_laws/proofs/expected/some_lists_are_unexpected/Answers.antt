use Rattle.tocmark_document_laws.proofs.UnexpectedRows.{some_unexpected}
use Rattle.tocmark_document_laws.proofs.expected.some_lists_are_unexpected.Goals as goal

pub returns : goal.returns
returns c = some_unexpected
