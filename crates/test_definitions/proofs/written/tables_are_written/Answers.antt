use Rattle.test_definitions.proofs.Tables.{tables-written}
use Rattle.test_definitions.proofs.written.tables_are_written.Goals as goal

pub returns : goal.returns
returns c = tables-written
