use Rattle.tocmark_choose.proofs.Chosen.{chosen-flat}
use Rattle.tocmark_choose.proofs.laws.events_are_chosen_as_forests.Goals as goal

pub returns : goal.returns
returns c = chosen-flat
