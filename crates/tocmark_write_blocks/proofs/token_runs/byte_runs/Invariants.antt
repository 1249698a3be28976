use Rattle.std.proofs.Common.{◌≡◌, take}
use Rattle.tocmark_write_blocks.specs.TokenRuns.{runs_in}
use Rattle.tocmark_write_blocks.proofs.token_runs.byte_runs.Given as goal

abbrev pub invariant-loop-other : goal.invariant-loop-other
invariant-loop-other l = l.runs ≡ runs_in l.byte (take l.other-index l.bytes)
