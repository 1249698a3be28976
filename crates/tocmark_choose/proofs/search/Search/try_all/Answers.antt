use Rattle.std.proofs.Common.{drop, map, subst, sym}
use Rattle.std.proofs.lemmas.Result.{err_from_is_err_and}
use Rattle.tocmark_write_renderer.specs.JobOf.{manner_view}
use Rattle.tocmark_write_renderer.specs.WriterOf.{site_of}
use Rattle.tocmark_choose.specs.TrialOf.{IsFront, asked_of, earlier_at}
use Rattle.tocmark_choose.proofs.LowManners.{low-at}
use Rattle.tocmark_choose.proofs.Trials.{goes-on-all, lost-all, none-left, one-found, one-lost, stopped-there, views-end}
use Rattle.tocmark_choose.proofs.search.Search.try_all.Goals as goal

pub try_one-requires-clause-low : goal.try_one-requires-clause-low
try_one-requires-clause-low g c = low-at manner_view c.args.manners.now c.loop-manner.manner-index _ c.loop-manner-test.true c.requires.low

pub try_one-requires-clause-front : goal.try_one-requires-clause-front
try_one-requires-clause-front g c = subst IsFront (sym c.loop-manner.invariant.0.kept) c.requires.front

pub loop-manner-init : goal.loop-manner-init
loop-manner-init g c =
    let q = asked_of g.R.Reader.reading c.args.self.now.trial.now in (
      goes-on-all q (earlier_at c.args.self.now.earlier (site_of c.args.renderer.now)) c.args.renderer.now (map manner_view c.args.manners.now),
      c.requires.refused,
    )

pub returns-in-Some-clause-tried : goal.returns-in-Some-clause-tried
returns-in-Some-clause-tried g c =
    let q = asked_of g.R.Reader.reading c.args.self.now.trial.now in
    one-found manner_view c.args.manners.now c.loop-manner.manner-index _ q (earlier_at c.args.self.now.earlier) (site_of c.args.renderer.now) c.loop-manner.renderer c.try_one.new.renderer
    c.loop-manner-test.true c.loop-manner.invariant.0 c.in_ok-known.field-0 c.in-Some.known c.in-Some.is c.in_ok-known.ensures.tried

pub loop-manner-preserved : goal.loop-manner-preserved
loop-manner-preserved g c =
    let q = asked_of g.R.Reader.reading c.args.self.now.trial.now in (
      one-lost manner_view c.args.manners.now c.loop-manner.manner-index _ q (earlier_at c.args.self.now.earlier) (site_of c.args.renderer.now) c.loop-manner.renderer c.try_one.new.renderer
          c.loop-manner-test.true c.loop-manner.invariant.0 c.in_ok-known.field-0 (none-left c.in_ok-known.field-0 c.in_default.not-Some) c.in_ok-known.ensures.tried,
      c.in_ok-known.ensures.refused,
    )

pub returns-in_err-known-clause-tried : goal.returns-in_err-known-clause-tried
returns-in_err-known-clause-tried g c =
    let p = err_from_is_err_and c.from_residual.result c.from_residual.ensures.1 in
    let q = asked_of g.R.Reader.reading c.args.self.now.trial.now in
    rw (p.1, p.2) (stopped-there q (site_of c.args.renderer.now) (site_of c.loop-manner.renderer) c.try_one.new.renderer c.in_err-known.field-0.0 c.loop-manner.invariant.0.kept c.in_err-known.ensures.tried)

pub returns-clause-tried : goal.returns-clause-tried
returns-clause-tried g c =
    let q = asked_of g.R.Reader.reading c.args.self.now.trial.now in
    let xs = c.args.manners.now in
    let i = c.loop-manner.manner-index in
    let old = site_of c.args.renderer.now in
    lost-all q (earlier_at c.args.self.now.earlier old) old c.loop-manner.renderer (map manner_view xs) (map manner_view (drop i xs)) c.loop-manner.invariant.0 (views-end manner_view xs i c.loop-manner-test.false)
