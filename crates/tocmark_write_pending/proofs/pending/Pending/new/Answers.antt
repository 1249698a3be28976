use Rattle.tocmark_write_pending.proofs.Joined.{all-nothing}
use Rattle.tocmark_write_pending.proofs.pending.Pending.new.Goals as goal

pub invariant_of-result : goal.invariant_of-result
invariant_of-result c = rw (c.new.ensures.items, c.new-2.ensures.items, c.new-3.ensures.items, c.new-4.ensures.items, c.new-5.ensures.items) all-nothing
