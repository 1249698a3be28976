use Rattle.std.proofs.Common.{Ok, Err, ap, map, refl}
use Rattle.tocmark_event.specs.Options.{options_view, owned_options_view}
use Rattle.tocmark_state.specs.WorkView.{standing_of}
use Rattle.tocmark_write_renderer.specs.WriterOf.{reference_view}
use Rattle.tocmark_state.specs.StateView.{defined_of}
use Rattle.tocmark_state.proofs.Runs.{Ends-with}
use Rattle.tocmark_state.proofs.Statuses.{not_finished, not_failed}
use Rattle.tocmark_state.proofs.state.State.finish.Goals as goal

pub returns-in-Err-clause-active : goal.returns-in-Err-clause-active
returns-in-Err-clause-active g c flags source p h =
    rw c.failed.ensures.error
    (Ends-with g.W.Taker.takes g.W.Taker.refuses c.args.writer.now c.end.new.writer (defined_of c.args.self.now) (map reference_view c.deref.result.now) (owned_options_view c.args.self.now.options) (options_view c.lent_options.result) (g.R.Reader.reading c.args.self.now.reader) flags source (Err c.in-Err.refusal) p (standing_of c.args.self.now.work) (ap (map reference_view) c.deref.ensures.value) c.lent_options.ensures h.standing c.in-Err.ensures.made tt)

pub returns-in-Ok-clause-finished : goal.returns-in-Ok-clause-finished
returns-in-Ok-clause-finished g c h = not_finished c.args.self.now.status c.in-Active.is h

pub returns-in-Ok-clause-failed : goal.returns-in-Ok-clause-failed
returns-in-Ok-clause-failed g c h = not_failed c.args.self.now.status c.in-Active.is h

pub returns-in-Err-clause-finished : goal.returns-in-Err-clause-finished
returns-in-Err-clause-finished g c h = not_finished c.args.self.now.status c.in-Active.is h

pub returns-in-Err-clause-failed : goal.returns-in-Err-clause-failed
returns-in-Err-clause-failed g c h = not_failed c.args.self.now.status c.in-Active.is h

pub returns-in-Ok-clause-active : goal.returns-in-Ok-clause-active
returns-in-Ok-clause-active g c flags source p h =
    Ends-with g.W.Taker.takes g.W.Taker.refuses c.args.writer.now c.end.new.writer (defined_of c.args.self.now) (map reference_view c.deref.result.now) (owned_options_view c.args.self.now.options) (options_view c.lent_options.result) (g.R.Reader.reading c.args.self.now.reader) flags source (Ok (record { events_consumed = 0; bytes_written = c.in-Ok.bytes_written })) p (standing_of c.args.self.now.work) (ap (map reference_view) c.deref.ensures.value) c.lent_options.ensures h.standing c.in-Ok.ensures.made (record { events_consumed = refl; bytes_written = c.in-Ok.ensures.count })
