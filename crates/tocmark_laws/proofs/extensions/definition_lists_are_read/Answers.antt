use Rattle.tocmark_laws.proofs.DefinitionReading.{definition_lists_read}
use Rattle.tocmark_laws.proofs.extensions.definition_lists_are_read.Goals as goal

pub returns : goal.returns
returns c syntax title words has plain below fits = definition_lists_read syntax title words has plain below fits
