use Rattle.std.proofs.Common.{◌-◌, length}
use Rattle.tocmark_write_renderer.specs.RunsOf.{AreNoted}
use Rattle.tocmark_write_renderer.proofs.marker_runs.MarkerRuns.note.Given as goal

abbrev pub invariant-loop-self : goal.invariant-loop-self
invariant-loop-self l = AreNoted l.self l.bytes

abbrev pub decreases-loop-self : goal.decreases-loop-self
decreases-loop-self l = length l.bytes - l.self.read
