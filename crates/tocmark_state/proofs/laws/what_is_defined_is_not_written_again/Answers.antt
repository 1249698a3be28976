use Rattle.tocmark_state.proofs.Behind.{defines-itself, left-undefined}
use Rattle.tocmark_state.proofs.laws.what_is_defined_is_not_written_again.Goals as goal

pub returns-clause-none : goal.returns-clause-none
returns-clause-none c = left-undefined

pub returns-clause-own : goal.returns-clause-own
returns-clause-own c = defines-itself
