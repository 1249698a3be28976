use Rattle.tocmark_read_back_laws.proofs.NestedReadings.{nested_layouts_read_back}
use Rattle.tocmark_read_back_laws.proofs.nested.nested_layouts_are_read_back.Goals as goal

pub returns : goal.returns
returns c = nested_layouts_read_back
