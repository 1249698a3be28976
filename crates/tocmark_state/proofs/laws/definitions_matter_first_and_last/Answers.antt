use Rattle.tocmark_state.proofs.Behind.{later-alike}
use Rattle.tocmark_state.proofs.LaterUnits.{walk-alike}
use Rattle.tocmark_state.proofs.laws.definitions_matter_first_and_last.Goals as goal

pub returns-clause-choice : goal.returns-clause-choice
returns-clause-choice c = later-alike

pub returns-clause-walk : goal.returns-clause-walk
returns-clause-walk c = walk-alike
