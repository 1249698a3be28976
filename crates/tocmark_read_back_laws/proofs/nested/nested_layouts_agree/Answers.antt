use Rattle.tocmark_read_back_laws.proofs.NestedReadings.{nested_layouts_agree}
use Rattle.tocmark_read_back_laws.proofs.nested.nested_layouts_agree.Goals as goal

pub returns : goal.returns
returns c = nested_layouts_agree
