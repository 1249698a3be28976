use Rattle.tocmark_block_laws.proofs.ShortDefinitions.{definitions-short}
use Rattle.tocmark_block_laws.proofs.definitions.definitions_are_short.Goals as goal

pub returns : goal.returns
returns c = definitions-short
