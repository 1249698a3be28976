use Rattle.std.proofs.Common.{ap}
use Rattle.tocmark_state.specs.WorkView.{at_most}
use Rattle.tocmark.proofs.TokenRuns.{run_ends}
use Rattle.tocmark.proofs.token_count.Runs.after_byte.Goals as goal

pub returns-else-byte-token : goal.returns-else-byte-token
returns-else-byte-token c rest =
    rw c.max.ensures (ap at_most (run_ends c.args.self.longest c.args.self.last c.args.token c.args.byte rest c.if-byte-token.false))
