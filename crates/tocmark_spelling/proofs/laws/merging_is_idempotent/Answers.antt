use Rattle.tocmark_spelling.proofs.MergeLaws.{merged-merged}
use Rattle.tocmark_spelling.proofs.laws.merging_is_idempotent.Goals as goal

pub returns : goal.returns
returns c = merged-merged
