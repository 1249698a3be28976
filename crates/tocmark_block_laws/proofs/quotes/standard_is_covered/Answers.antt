use Rattle.tocmark_block_laws.proofs.Coverage.{standard-covered}
use Rattle.tocmark_block_laws.proofs.quotes.standard_is_covered.Goals as goal

pub returns : goal.returns
returns c = standard-covered
