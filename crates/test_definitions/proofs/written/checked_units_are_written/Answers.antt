use Rattle.test_definitions.proofs.Checked.{checked-written}
use Rattle.test_definitions.proofs.written.checked_units_are_written.Goals as goal

pub returns : goal.returns
returns c = checked-written
