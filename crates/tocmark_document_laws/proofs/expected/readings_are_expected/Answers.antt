use Rattle.tocmark_document_laws.proofs.ReadingsExpected.{readings_expected, short_readings_expected}
use Rattle.tocmark_document_laws.proofs.expected.readings_are_expected.Goals as goal

pub returns-clause-counted : goal.returns-clause-counted
returns-clause-counted c = readings_expected

pub returns-clause-short : goal.returns-clause-short
returns-clause-short c = short_readings_expected
