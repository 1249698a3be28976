use Rattle.tocmark_state.proofs.Walks.{walk_after}
use Rattle.tocmark_laws.proofs.walk.cuts_are_free.Goals as goal

pub returns : goal.returns
returns c how source s t p q h = walk_after how source s t p q h
