use Rattle.tocmark_laws.proofs.CodeBlocks.{is_fenced}
use Rattle.tocmark_laws.proofs.blocks.code_is_fenced.Goals as goal

pub returns : goal.returns
returns c = λ options reading flags source info ts off. is_fenced options reading flags info ts off source
