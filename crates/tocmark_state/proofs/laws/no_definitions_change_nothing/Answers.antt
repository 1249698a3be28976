use Rattle.tocmark_state.proofs.Behind.{behind-none}
use Rattle.tocmark_state.proofs.laws.no_definitions_change_nothing.Goals as goal

pub returns : goal.returns
returns c = behind-none
