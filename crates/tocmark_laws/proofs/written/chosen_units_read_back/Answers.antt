use Rattle.tocmark_laws.proofs.WrittenUnits.{delimited-chosen}
use Rattle.tocmark_laws.proofs.written.chosen_units_read_back.Goals as goal

pub returns : goal.returns
returns c = delimited-chosen
