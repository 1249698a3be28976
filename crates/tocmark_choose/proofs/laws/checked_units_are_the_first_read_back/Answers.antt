use Rattle.tocmark_choose.proofs.FirstReadBack.{checked-chosen}
use Rattle.tocmark_choose.proofs.laws.checked_units_are_the_first_read_back.Goals as goal

pub returns : goal.returns
returns c = checked-chosen
