use Rattle.std.proofs.Common.{drop, flat_map, get_or, map, subst, sym}
use Rattle.std.specs.List.{AllByRecursion}
use Rattle.std.proofs.lemmas.Result.{err_from_is_err_and}
use Rattle.tocmark_write_renderer.specs.JobOf.{manner_view}
use Rattle.tocmark_write_renderer.specs.WriterOf.{site_of}
use Rattle.tocmark_choose.specs.Candidates.{fallback_manners, fallbacks}
use Rattle.tocmark_choose.specs.TrialOf.{IsFront, IsLow, asked_of, earlier_at}
use Rattle.tocmark_choose.specs.Tries.{plan_view}
use Rattle.tocmark_choose.proofs.LowManners.{low-fallback}
use Rattle.tocmark_choose.proofs.Trials.{fallback_at, fallbacks-begin, fallbacks-end, fallbacks-left, lost-all, none-left, some-found, some-lost, stopped-there}
use Rattle.tocmark_choose.proofs.search.Search.try_fallbacks.Goals as goal

pub try_all-requires-clause-low : goal.try_all-requires-clause-low
try_all-requires-clause-low g c = subst (AllByRecursion IsLow) (sym c.with_all_markers-manners.ensures) (low-fallback (plan_view (get_or c.fallback_plans-plan-items.result c.loop-plan.plan-index _)))

pub try_all-requires-clause-front : goal.try_all-requires-clause-front
try_all-requires-clause-front g c = subst IsFront (sym c.loop-plan.invariant.0.kept) c.requires.front

pub loop-plan-init : goal.loop-plan-init
loop-plan-init g c =
    let q = asked_of g.R.Reader.reading c.args.self.now.trial.now in
    let now = c.args.renderer.now in (
      fallbacks-begin q (earlier_at c.args.self.now.earlier (site_of now)) now c.fallback_plans-plan-items.result c.fallback_plans-plan-items.ensures,
      c.requires.refused,
    )

pub returns-in-Some-clause-tried : goal.returns-in-Some-clause-tried
returns-in-Some-clause-tried g c =
    let q = asked_of g.R.Reader.reading c.args.self.now.trial.now in
    some-found fallback_at c.fallback_plans-plan-items.result c.loop-plan.plan-index _ q (earlier_at c.args.self.now.earlier) (site_of c.args.renderer.now) c.loop-plan.renderer c.try_all.new.renderer
    (flat_map fallback_manners fallbacks) (map manner_view c.with_all_markers-manners.result) (fallbacks-left c.fallback_plans-plan-items.result c.loop-plan.plan-index c.fallback_plans-plan-items.ensures c.loop-plan-test.true) c.with_all_markers-manners.ensures c.loop-plan.invariant.0 c.in_ok-known.field-0 c.in-Some.known c.in-Some.is c.in_ok-known.ensures.tried

pub loop-plan-preserved : goal.loop-plan-preserved
loop-plan-preserved g c =
    let q = asked_of g.R.Reader.reading c.args.self.now.trial.now in (
      some-lost fallback_at c.fallback_plans-plan-items.result c.loop-plan.plan-index _ q (earlier_at c.args.self.now.earlier) (site_of c.args.renderer.now) c.loop-plan.renderer c.try_all.new.renderer
          (flat_map fallback_manners fallbacks) (map manner_view c.with_all_markers-manners.result) (fallbacks-left c.fallback_plans-plan-items.result c.loop-plan.plan-index c.fallback_plans-plan-items.ensures c.loop-plan-test.true) c.with_all_markers-manners.ensures c.loop-plan.invariant.0 c.in_ok-known.field-0 (none-left c.in_ok-known.field-0 c.in_default.not-Some) c.in_ok-known.ensures.tried,
      c.in_ok-known.ensures.refused,
    )

pub returns-in_err-known-clause-tried : goal.returns-in_err-known-clause-tried
returns-in_err-known-clause-tried g c =
    let p = err_from_is_err_and c.from_residual.result c.from_residual.ensures.1 in
    let q = asked_of g.R.Reader.reading c.args.self.now.trial.now in
    rw (p.1, p.2) (stopped-there q (site_of c.args.renderer.now) (site_of c.loop-plan.renderer) c.try_all.new.renderer c.in_err-known.field-0.0 c.loop-plan.invariant.0.kept c.in_err-known.ensures.tried)

pub returns-clause-tried : goal.returns-clause-tried
returns-clause-tried g c =
    let q = asked_of g.R.Reader.reading c.args.self.now.trial.now in
    let old = site_of c.args.renderer.now in
    lost-all q (earlier_at c.args.self.now.earlier old) old c.loop-plan.renderer (flat_map fallback_manners fallbacks) (flat_map fallback_at (drop c.loop-plan.plan-index c.fallback_plans-plan-items.result)) c.loop-plan.invariant.0 (fallbacks-end c.fallback_plans-plan-items.result c.loop-plan.plan-index c.fallback_plans-plan-items.ensures c.loop-plan-test.false)
