use Rattle.tocmark_write_pending.proofs.Balanced.{reading-balanced}
use Rattle.tocmark_laws.proofs.Reading.{nothing_nested}
use Rattle.tocmark_laws.proofs.walk.pending_events_are_nested.Goals as goal

pub returns : goal.returns
returns c how source kept s p h =
    let n = nothing_nested how source kept s p h in
    (n, λ o. reading-balanced s.pending (rw o at n))
