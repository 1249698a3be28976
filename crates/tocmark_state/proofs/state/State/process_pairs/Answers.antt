use Rattle.std.proofs.Common.{Ok, Err, ap, map, subst, length, sum_by}
use Rattle.tocmark_event.specs.Options.{options_view, owned_options_view}
use Rattle.tocmark_state.specs.Walk.{Rendering, walk}
use Rattle.tocmark_state.specs.WorkView.{Counts, incoming_pairs, standing_of}
use Rattle.tocmark_state.specs.Writes.{Makes}
use Rattle.tocmark_state.specs.declared.work.Progress.{Progress}
use Rattle.tocmark_write_renderer.specs.WriterOf.{reference_view}
use Rattle.tocmark_state.specs.StateView.{defined_of}
use Rattle.tocmark_state.proofs.Runs.{behind-same}
use Rattle.tocmark_state.proofs.Statuses.{not_finished, not_failed}
use Rattle.tocmark_state.proofs.state.State.process_pairs.Goals as goal

pub returns-in-Ok-clause-active : goal.returns-in-Ok-clause-active
returns-in-Ok-clause-active g c a =
    let e = c.in-Ok.ensures.made in
    let s = standing_of c.args.self.now.work in
    let pairs = incoming_pairs g.E.Incoming.event e.0 in
    let same = behind-same (defined_of c.args.self.now) (map reference_view c.deref.result.now) (owned_options_view c.args.self.now.options) (options_view c.lent_options.result) (g.R.Reader.reading c.args.self.now.reader) (ap (map reference_view) c.deref.ensures.value) c.lent_options.ensures in (
      e.0,
      e.1,
      subst (λ (how : Rendering). Makes {X = Progress} g.W.Taker.takes g.W.Taker.refuses c.args.writer.now c.take_all.new.writer (Ok c.in-Ok.progress) (standing_of c.take_all.new.self) (walk how c.args.source.now s pairs)) same e.2,
      subst (λ (how : Rendering). Counts c.in-Ok.progress (length e.0) (sum_by length (walk how c.args.source.now s pairs).texts)) same e.3,
    )

pub returns-in-Err-clause-active : goal.returns-in-Err-clause-active
returns-in-Err-clause-active g c a =
    let e = c.in-Err.ensures.made in
    let s = standing_of c.args.self.now.work in
    let pairs = incoming_pairs g.E.Incoming.event e.0 in
    let same = behind-same (defined_of c.args.self.now) (map reference_view c.deref.result.now) (owned_options_view c.args.self.now.options) (options_view c.lent_options.result) (g.R.Reader.reading c.args.self.now.reader) (ap (map reference_view) c.deref.ensures.value) c.lent_options.ensures in
    rw c.failed.ensures.error (
      e.0,
      e.1,
      subst (λ (how : Rendering). Makes {X = Progress} g.W.Taker.takes g.W.Taker.refuses c.args.writer.now c.take_all.new.writer (Err c.in-Err.error) (standing_of c.take_all.new.self) (walk how c.args.source.now s pairs)) same e.2,
      tt,
    )

pub returns-in-Ok-clause-finished : goal.returns-in-Ok-clause-finished
returns-in-Ok-clause-finished g c h = not_finished c.args.self.now.status c.in-Active.is h

pub returns-in-Ok-clause-failed : goal.returns-in-Ok-clause-failed
returns-in-Ok-clause-failed g c h = not_failed c.args.self.now.status c.in-Active.is h

pub returns-in-Err-clause-finished : goal.returns-in-Err-clause-finished
returns-in-Err-clause-finished g c h = not_finished c.args.self.now.status c.in-Active.is h

pub returns-in-Err-clause-failed : goal.returns-in-Err-clause-failed
returns-in-Err-clause-failed g c h = not_failed c.args.self.now.status c.in-Active.is h
