use Rattle.tocmark_document_laws.proofs.ReadingsExpected.{lists_expected}
use Rattle.tocmark_document_laws.proofs.expected.proper_lists_are_expected.Goals as goal

pub returns : goal.returns
returns c = lists_expected
