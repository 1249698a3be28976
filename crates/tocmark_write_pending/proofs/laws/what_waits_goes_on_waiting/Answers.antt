use Rattle.tocmark_write_pending.proofs.Ambiguous.{waits-more}
use Rattle.tocmark_write_pending.proofs.laws.what_waits_goes_on_waiting.Goals as goal

pub returns : goal.returns
returns c = waits-more
