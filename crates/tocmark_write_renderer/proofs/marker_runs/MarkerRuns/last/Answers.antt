use Rattle.tocmark_write_renderer.proofs.Notes.{last-read, none-read}
use Rattle.tocmark_write_renderer.proofs.marker_runs.MarkerRuns.last.Goals as goal

pub returns-in-Some : goal.returns-in-Some
returns-in-Some c = λ text h. last-read c.args.self.now text c.deref.result.now c.in-Some.run'.now c.deref.ensures.value c.in-Some.ensures.item.3.0 c.in-Some.ensures.item.1 h

pub returns-in-None : goal.returns-in-None
returns-in-None c = λ text h. none-read c.args.self.now text c.deref.result.now c.deref.ensures.value c.in-None.ensures.item.3 h
