use Rattle.std.proofs.Common.{drop, flat_map}
use Rattle.tocmark_write_renderer.specs.WriterOf.{site_of}
use Rattle.tocmark_choose.specs.Candidates.{fallback_manners, fallbacks}
use Rattle.tocmark_choose.specs.TrialOf.{AreRefused, asked_of, earlier_at, earlier_view}
use Rattle.tocmark_choose.proofs.Trials.{GoesOn, fallback_at}
use Rattle.tocmark_choose.proofs.search.Search.try_fallbacks.Given as goal

abbrev pub invariant-loop-plan : goal.invariant-loop-plan
invariant-loop-plan g l =
    let q = asked_of g.R.Reader.reading l.self.trial.now in
    let old = site_of l.initial.renderer in
    GoesOn q (earlier_at l.self.earlier old) old l.renderer (flat_map fallback_manners fallbacks) (flat_map fallback_at (drop l.plan-index l.plan-items)) × AreRefused q (earlier_view l.self.earlier) l.refused
