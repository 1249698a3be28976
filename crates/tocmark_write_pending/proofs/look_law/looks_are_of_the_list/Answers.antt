use Rattle.tocmark_write_pending.proofs.Ahead.{all-seen}
use Rattle.tocmark_write_pending.proofs.look_law.looks_are_of_the_list.Goals as goal

pub returns : goal.returns
returns c = all-seen
