use Rattle.std.proofs.Common.{ap, arith, length}
use Rattle.tocmark_spelling.proofs.Turns.{length-events}
use Rattle.tocmark_state.proofs.state.State.pending_events.Goals as goal

pub returns : goal.returns
returns g c = omega (arith, ap length c.events.ensures, length-events c.events.result.now)
