use Rattle.tocmark_laws.proofs.ScriptReading.{script_read}
use Rattle.tocmark_laws.proofs.extensions.scripts_are_read.Goals as goal

pub returns : goal.returns
returns c syntax low phrase has words fits = script_read syntax low phrase has words fits
