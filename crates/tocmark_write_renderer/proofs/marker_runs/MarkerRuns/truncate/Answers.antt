use Rattle.tocmark_write_renderer.proofs.Notes.{cut-noted}
use Rattle.tocmark_write_renderer.proofs.marker_runs.MarkerRuns.truncate.Goals as goal

pub returns-then-length-self : goal.returns-then-length-self
returns-then-length-self c = λ text h. cut-noted c.args.self.now (record { runs = c.cut.new.runs; read = c.args.length }) text h c.if-length-self.true c.cut.ensures
