use Rattle.std.proofs.Common.{◌∙◌, [], Result, Err, Ok, inr, refl, subst}
use Rattle.std.proofs.lemmas.Result.{err_from_is_err_and}
use Rattle.tocmark_event.specs.Options.{options_view}
use Rattle.tocmark_event.specs.declared.options.Error.{Error}
use Rattle.tocmark_state.specs.declared.work.Progress.{Progress}
use Rattle.tocmark_state.specs.Walk.{Rendering}
use Rattle.tocmark_state.specs.StateView.{Ends, Stands, place_of, rendering_of}
use Rattle.tocmark_state.specs.WorkView.{pairs, rendering}
use Rattle.tocmark_state.proofs.Runs.{Adds-walk, Ends-script}
use Rattle.tocmark.proofs.Written.{failed, written}
use Rattle.tocmark.proofs.cmark_with_options.Goals as goal

pub returns-in_err-state-clause-made : goal.returns-in_err-state-clause-made
returns-in_err-state-clause-made g c =
    let p = err_from_is_err_and c.from_residual.result c.from_residual.ensures.1 in
    rw (p.1, p.2, c.in_err-state.ensures.refused) (inr (c.into_iter-events.result, [], c.into_iter-events.ensures.into_iter_gives, (c.into_iter-events.result, refl, λ h. absurd h), λ source. ([], _, refl, refl)))

pub returns-in_err-process-clause-made : goal.returns-in_err-process-clause-made
returns-in_err-process-clause-made g c =
    let p = err_from_is_err_and c.from_residual-in_err-process.result c.from_residual-in_err-process.ensures.1 in
    let flags = c.args.parser_options in
    let s = c.in_ok-state.ensures.stands in
    let gives = g.W.Taker.takes in
    let refuses = g.W.Taker.refuses in
    let how = rendering_of g.R.Reader.reading c.in_ok-state.state in
    let named = rendering (options_view c.args.options) (g.R.Reader.reading c.args.reader) in
    let w = c.args.writer.now in
    let mid = c.process.new.writer in
    let place = place_of c.process.new.self in
    let a = c.in_err-process.ensures.active (s []).active in
    let e = c.in_err-process.field-0.0 in
    let r : Result (Unit {0}) Error = Err e in
    rw (p.1, p.2) (failed g.I.IntoIterator.into_iter_gives g.I.IntoIter.Iterator.next_gives c.args.events gives refuses w mid r how named flags c.into_iter-events.result a.1 c.in_ok-state.ensures.same c.into_iter-events.ensures.into_iter_gives
    (a.3.0, rw (← a.2) a.3.1, λ h. absurd h)
    (λ source. Adds-walk gives refuses w mid how flags source e place (pairs a.1) (a.4 flags source [] (s source))))

pub returns-in_err-finish-clause-made : goal.returns-in_err-finish-clause-made
returns-in_err-finish-clause-made g c =
    let p = err_from_is_err_and c.from_residual-in_err-finish.result c.from_residual-in_err-finish.ensures.1 in
    let flags = c.args.parser_options in
    let s = c.in_ok-state.ensures.stands in
    let gives = g.W.Taker.takes in
    let refuses = g.W.Taker.refuses in
    let how = rendering_of g.R.Reader.reading c.in_ok-state.state in
    let named = rendering (options_view c.args.options) (g.R.Reader.reading c.args.reader) in
    let w = c.args.writer.now in
    let mid = c.process.new.writer in
    let place = place_of c.process.new.self in
    let a = c.in_ok-process.ensures.active (s []).active in
    let r : Result Progress Error = Err c.in_err-finish.field-0.0 in
    rw (p.1, p.2) (written g.I.IntoIterator.into_iter_gives g.I.IntoIter.Iterator.next_gives c.args.events gives refuses w c.finish.new.writer r how named flags c.into_iter-events.result a.1 c.in_ok-state.ensures.same c.into_iter-events.ensures.into_iter_gives
    (a.3.0, rw (← a.2) a.3.1, λ h. a.3.2 refl)
    (λ source. let b = a.4 flags source [] (s source) in
    let t : Stands g.R.Reader.reading flags source c.process.new.self (pairs a.1) = record {
      active = c.in_ok-process.ensures.stands ∙ (s source).active;
      standing = rw c.in_ok-process.ensures.same b.made.0;
    } in
    Ends-script gives refuses w mid c.finish.new.writer how flags source c.in_ok-process.field-0 r place (pairs a.1) b
    (subst (λ (x : Rendering). Ends gives refuses mid c.finish.new.writer x flags source r (pairs a.1)) c.in_ok-process.ensures.same (c.in_err-finish.ensures.active flags source (pairs a.1) t))))

pub returns-clause-made : goal.returns-clause-made
returns-clause-made g c =
    let flags = c.args.parser_options in
    let s = c.in_ok-state.ensures.stands in
    let gives = g.W.Taker.takes in
    let refuses = g.W.Taker.refuses in
    let how = rendering_of g.R.Reader.reading c.in_ok-state.state in
    let named = rendering (options_view c.args.options) (g.R.Reader.reading c.args.reader) in
    let w = c.args.writer.now in
    let mid = c.process.new.writer in
    let place = place_of c.process.new.self in
    let a = c.in_ok-process.ensures.active (s []).active in
    let r : Result Progress Error = Ok c.in_ok-finish.field-0 in
    written g.I.IntoIterator.into_iter_gives g.I.IntoIter.Iterator.next_gives c.args.events gives refuses w c.finish.new.writer r how named flags c.into_iter-events.result a.1 c.in_ok-state.ensures.same c.into_iter-events.ensures.into_iter_gives
    (a.3.0, rw (← a.2) a.3.1, λ h. a.3.2 refl)
    (λ source. let b = a.4 flags source [] (s source) in
    let t : Stands g.R.Reader.reading flags source c.process.new.self (pairs a.1) = record {
      active = c.in_ok-process.ensures.stands ∙ (s source).active;
      standing = rw c.in_ok-process.ensures.same b.made.0;
    } in
    Ends-script gives refuses w mid c.finish.new.writer how flags source c.in_ok-process.field-0 r place (pairs a.1) b
    (subst (λ (x : Rendering). Ends gives refuses mid c.finish.new.writer x flags source r (pairs a.1)) c.in_ok-process.ensures.same (c.in_ok-finish.ensures.active flags source (pairs a.1) t)))

pub returns-clause-same : goal.returns-clause-same
returns-clause-same g c = c.in_ok-finish.ensures.same ∙ c.in_ok-process.ensures.same ∙ c.in_ok-state.ensures.same

pub returns-clause-flags : goal.returns-clause-flags
returns-clause-flags g c = c.in_ok-finish.ensures.flags ∙ c.in_ok-process.ensures.flags ∙ c.in_ok-state.ensures.flags
