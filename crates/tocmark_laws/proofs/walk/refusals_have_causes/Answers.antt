use Rattle.tocmark_laws.proofs.Causes.{walk_cause, script_cause}
use Rattle.tocmark_laws.proofs.walk.refusals_have_causes.Goals as goal

pub returns-clause-walk : goal.returns-clause-walk
returns-clause-walk c how source s p e h = walk_cause how source s p e h

pub returns-clause-script : goal.returns-clause-script
returns-clause-script c how source s p e h = script_cause how source s p e h
