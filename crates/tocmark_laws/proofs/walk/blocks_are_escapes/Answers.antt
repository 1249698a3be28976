use Rattle.tocmark_laws.proofs.BlockWalks.{blocks_are_handed}
use Rattle.tocmark_laws.proofs.walk.blocks_are_escapes.Goals as goal

pub returns : goal.returns
returns c options reading flags source blocks off h = blocks_are_handed options reading flags source off blocks h
