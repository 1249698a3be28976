use Rattle.std.proofs.Common.{◌≡◌, ◌∙◌, Ok, Err, ℕ, Option, rules, ◌++◌, ◌∷◌, [], ap, length, subst, sum_by}
use Rattle.std.proofs.iter.Next.{Yields-more}
use Rattle.std.proofs.lemmas.List.{length-append}
use Rattle.std.proofs.lemmas.Result.{err_from_is_err_and}
use Rattle.std.specs.List.{FoldsTo}
use Rattle.tocmark_event.specs.View.{EventView}
use Rattle.tocmark_choose.specs.TrialOf.{Refuses}
use Rattle.tocmark_spelling.specs.Buffered.{sourced}
use Rattle.tocmark_write_pending.specs.Pending.{text_now}
use Rattle.tocmark_state.specs.WorkView.{standing_of, incoming_pairs, rendering_with}
use Rattle.tocmark_state.specs.Ranges.{Range, resolved_at}
use Rattle.tocmark_state.specs.Walk.{Standing, Walk, flushed_before, joins, step, walk}
use Rattle.tocmark_state.specs.Writes.{Makes, RefusesAt}
use Rattle.tocmark_state.specs.declared.work.Progress.{Progress}
use Rattle.tocmark_state.proofs.Steps.{Makes-ranged, ranged_bytes, Counts-more, no_ok}
use Rattle.tocmark_state.proofs.Walks.{Makes-then, RefusesAt-longer, RefusesAt-quiet, advance_after, advance_sourced, advance_texts, joins_as, joins_texts, step_ok, step_refused}
use Rattle.tocmark_state.proofs.work.Work.take_all.Goals as goal

pub loop-event-preserved : goal.loop-event-preserved
loop-event-preserved g c =
    let i = c.loop-event.invariant in
    let how = rendering_with g.R.Reader.reading c.args.tools.now in
    let source = c.args.source.now in
    let first = standing_of c.args.self.now in
    let here = standing_of c.loop-event.self in
    let ys = c.loop-event.yielded in
    let y : g.row.E.Denot × Option Range = (c.in-Some.event, c.in-Some.range) in
    let event = g.E.Incoming.event in
    let gives = g.W.Taker.takes in
    let refuses = g.W.Taker.refuses in
    let w = c.loop-event.writer in
    let e = event c.in-Some.event in
    let pair : EventView × Option Range = (e, c.in-Some.range) in
    let t = text_now c.in_ok-spelling.spelling in
    let n = c.in_ok-spelling.range_end in
    let s : Standing = record here { range_end = n } in
    let is = subst (λ (l : EventView). resolved_at source c.loop-event.self.range_end l c.in-Some.range ≡ Ok (sourced l t, n)) c.lent.ensures c.in_ok-spelling.ensures in
    let u = standing_of c.flush_before.new.self in
    let v = c.flush_before.new.writer in
    let came : (flushed_before how e s).outcome ≡ Ok u = subst (λ (l : EventView). (flushed_before how l s).outcome ≡ Ok u) c.lent-in-loop-event.ensures c.in_ok-written.ensures.made.0 in
    let folds = subst (λ (l : EventView). FoldsTo gives w (flushed_before how l s).texts v) c.lent-in-loop-event.ensures c.in_ok-written.ensures.made.1 in
    let joined = joins_as {X = ℕ} (Ok c.in_ok-written.written) (sourced e t) u c.flush_before.new.self.pending c.join.new.self c.in_ok-join.ensures in
    let new = standing_of (record c.flush_before.new.self { pending = c.join.new.self }) in
    let step_is = step_ok how source pair here (sourced e t) n is in
    let took : Makes {X = ℕ} gives refuses w v (Ok c.in_ok-written.written) new (step how source pair here) = rw step_is
    (ap (λ (x : Walk Standing). x.outcome) (advance_after how e t s u came) ∙ joined, rw (advance_texts how e t s u came) folds) in
    let count = subst (λ (l : EventView). c.in_ok-written.written ≡ sum_by length (flushed_before how l s).texts) c.lent-in-loop-event.ensures c.in_ok-written.ensures.count in
    let bytes : c.in_ok-written.written ≡ sum_by length (step how source pair here).texts = rw (step_is, advance_texts how e t s u came) count in
    let m = Makes-ranged {X = ℕ} gives refuses c.args.writer.now w v (Ok c.in_ok-written.written) new how source event first here ys y i.2 i.3 took in (
      search rules,
      search rules,
      m.0,
      m.1,
      rw (length-append ys (y ∷ []), ranged_bytes how source event first here ys y i.2, ← bytes)
          (Counts-more c.loop-event.progress c.counted-progress.result.events_consumed c.counted-progress.result.bytes_written (length ys) (sum_by length (walk how source first (incoming_pairs event ys)).texts) c.in_ok-written.written i.4 c.counted-progress.ensures.events c.counted-progress.ensures.bytes),
      c.in_ok-written.ensures.flags ∙ i.5,
    )

pub returns-clause-made : goal.returns-clause-made
returns-clause-made g c =
    let i = c.loop-event.invariant in (
      c.loop-event.yielded,
      (c.loop-event.event-iterator, rw (← c.into_iter-event-iterator.ensures.into_iter_gives) c.loop-event.yielded_by, λ h. (c.next.new.self, c.in-None.ensures.steps)),
      (i.2, i.3),
      i.4,
    )

pub returns-in_err-spelling-clause-made : goal.returns-in_err-spelling-clause-made
returns-in_err-spelling-clause-made g c =
    let q = err_from_is_err_and c.from_residual.result c.from_residual.ensures.1 in
    let i = c.loop-event.invariant in
    let how = rendering_with g.R.Reader.reading c.args.tools.now in
    let source = c.args.source.now in
    let first = standing_of c.args.self.now in
    let here = standing_of c.loop-event.self in
    let ys = c.loop-event.yielded in
    let y : g.row.E.Denot × Option Range = (c.in-Some.event, c.in-Some.range) in
    let event = g.E.Incoming.event in
    let gives = g.W.Taker.takes in
    let refuses = g.W.Taker.refuses in
    let w = c.loop-event.writer in
    let e = event c.in-Some.event in
    let pair : EventView × Option Range = (e, c.in-Some.range) in
    let fault = c.in_err-spelling.field-0.0 in
    let refused : RefusesAt gives refuses w w fault (step how source pair here) = step_refused gives refuses w how source pair here fault
    (subst (λ (l : EventView). Refuses fault (resolved_at source here.range_end l c.in-Some.range)) c.lent.ensures c.in_err-spelling.ensures) in
    rw (q.1, q.2) (
      ys ++ y ∷ [],
      (c.next.new.self, rw (← c.into_iter-event-iterator.ensures.into_iter_gives) (Yields-more g.I.Iterator.next_gives c.into_iter-event-iterator.result ys c.loop-event.event-iterator y c.next.new.self c.loop-event.yielded_by c.in-Some.ensures.steps), λ h. no_ok h),
      Makes-ranged {X = Progress} gives refuses c.args.writer.now w w (Err fault) here how source event first here ys y i.2 i.3 refused,
      tt,
    )

pub returns-in_err-written-clause-made : goal.returns-in_err-written-clause-made
returns-in_err-written-clause-made g c =
    let q = err_from_is_err_and c.from_residual-in_err-written.result c.from_residual-in_err-written.ensures.1 in
    let i = c.loop-event.invariant in
    let how = rendering_with g.R.Reader.reading c.args.tools.now in
    let source = c.args.source.now in
    let first = standing_of c.args.self.now in
    let here = standing_of c.loop-event.self in
    let ys = c.loop-event.yielded in
    let y : g.row.E.Denot × Option Range = (c.in-Some.event, c.in-Some.range) in
    let event = g.E.Incoming.event in
    let gives = g.W.Taker.takes in
    let refuses = g.W.Taker.refuses in
    let w = c.loop-event.writer in
    let e = event c.in-Some.event in
    let pair : EventView × Option Range = (e, c.in-Some.range) in
    let fault = c.in_err-written.field-0.0 in
    let t = text_now c.in_ok-spelling.spelling in
    let n = c.in_ok-spelling.range_end in
    let s : Standing = record here { range_end = n } in
    let is = subst (λ (l : EventView). resolved_at source c.loop-event.self.range_end l c.in-Some.range ≡ Ok (sourced l t, n)) c.lent.ensures c.in_ok-spelling.ensures in
    let v = c.flush_before.new.writer in
    let left = subst (λ (l : EventView). RefusesAt gives refuses w v fault (flushed_before how l s)) c.lent-in-loop-event.ensures c.in_err-written.ensures.made in
    let refused : RefusesAt gives refuses w v fault (step how source pair here) = rw (step_ok how source pair here (sourced e t) n is, advance_sourced how e t s)
    (RefusesAt-longer gives refuses w v fault (flushed_before how e s).texts (flushed_before how e s).outcome (λ x. joins (sourced e t) x) left) in
    rw (q.1, q.2) (
      ys ++ y ∷ [],
      (c.next.new.self, rw (← c.into_iter-event-iterator.ensures.into_iter_gives) (Yields-more g.I.Iterator.next_gives c.into_iter-event-iterator.result ys c.loop-event.event-iterator y c.next.new.self c.loop-event.yielded_by c.in-Some.ensures.steps), λ h. no_ok h),
      Makes-ranged {X = Progress} gives refuses c.args.writer.now w v (Err fault) here how source event first here ys y i.2 i.3 refused,
      tt,
    )

pub returns-in_err-join-clause-made : goal.returns-in_err-join-clause-made
returns-in_err-join-clause-made g c =
    let q = err_from_is_err_and c.from_residual-in_err-join.result c.from_residual-in_err-join.ensures.1 in
    let i = c.loop-event.invariant in
    let how = rendering_with g.R.Reader.reading c.args.tools.now in
    let source = c.args.source.now in
    let first = standing_of c.args.self.now in
    let here = standing_of c.loop-event.self in
    let ys = c.loop-event.yielded in
    let y : g.row.E.Denot × Option Range = (c.in-Some.event, c.in-Some.range) in
    let event = g.E.Incoming.event in
    let gives = g.W.Taker.takes in
    let refuses = g.W.Taker.refuses in
    let w = c.loop-event.writer in
    let e = event c.in-Some.event in
    let pair : EventView × Option Range = (e, c.in-Some.range) in
    let fault = c.in_err-join.field-0.0 in
    let t = text_now c.in_ok-spelling.spelling in
    let n = c.in_ok-spelling.range_end in
    let s : Standing = record here { range_end = n } in
    let is = subst (λ (l : EventView). resolved_at source c.loop-event.self.range_end l c.in-Some.range ≡ Ok (sourced l t, n)) c.lent.ensures c.in_ok-spelling.ensures in
    let u = standing_of c.flush_before.new.self in
    let v = c.flush_before.new.writer in
    let came : (flushed_before how e s).outcome ≡ Ok u = subst (λ (l : EventView). (flushed_before how l s).outcome ≡ Ok u) c.lent-in-loop-event.ensures c.in_ok-written.ensures.made.0 in
    let folds = subst (λ (l : EventView). FoldsTo gives w (flushed_before how l s).texts v) c.lent-in-loop-event.ensures c.in_ok-written.ensures.made.1 in
    let joined = joins_as {X = ℕ} (Err fault) (sourced e t) u c.flush_before.new.self.pending c.join.new.self c.in_err-join.ensures in
    let refused : RefusesAt gives refuses w v fault (step how source pair here) = rw (step_ok how source pair here (sourced e t) n is, advance_after how e t s u came)
    (Makes-then {X = ℕ} gives refuses w v v (Err fault) u u (flushed_before how e s).texts (λ x. joins (sourced e t) x) folds
    (RefusesAt-quiet gives refuses v fault (joins (sourced e t) u) (joins_texts (sourced e t) u) joined)) in
    rw (q.1, q.2) (
      ys ++ y ∷ [],
      (c.next.new.self, rw (← c.into_iter-event-iterator.ensures.into_iter_gives) (Yields-more g.I.Iterator.next_gives c.into_iter-event-iterator.result ys c.loop-event.event-iterator y c.next.new.self c.loop-event.yielded_by c.in-Some.ensures.steps), λ h. no_ok h),
      Makes-ranged {X = Progress} gives refuses c.args.writer.now w v (Err fault) here how source event first here ys y i.2 i.3 refused,
      tt,
    )
