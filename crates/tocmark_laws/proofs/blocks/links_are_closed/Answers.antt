use Rattle.tocmark_laws.proofs.Links.{handed}
use Rattle.tocmark_laws.proofs.blocks.links_are_closed.Goals as goal

pub returns : goal.returns
returns c = λ options reading flags source dest title id text off. handed options reading flags dest title id text off source
