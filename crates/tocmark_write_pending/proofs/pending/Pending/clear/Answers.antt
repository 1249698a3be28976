use Rattle.tocmark_write_pending.proofs.Joined.{all-nothing}
use Rattle.tocmark_write_pending.proofs.pending.Pending.clear.Goals as goal

pub invariant_of-self : goal.invariant_of-self
invariant_of-self c = rw (c.clear.ensures.items, c.clear-2.ensures.items, c.clear-3.ensures.items, c.clear-4.ensures.items, c.clear-5.ensures.items) all-nothing
