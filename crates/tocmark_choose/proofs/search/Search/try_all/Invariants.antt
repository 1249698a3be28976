use Rattle.std.proofs.Common.{drop, map}
use Rattle.tocmark_write_renderer.specs.JobOf.{manner_view}
use Rattle.tocmark_write_renderer.specs.WriterOf.{site_of}
use Rattle.tocmark_choose.specs.TrialOf.{AreRefused, asked_of, earlier_at, earlier_view}
use Rattle.tocmark_choose.proofs.Trials.{GoesOn}
use Rattle.tocmark_choose.proofs.search.Search.try_all.Given as goal

abbrev pub invariant-loop-manner : goal.invariant-loop-manner
invariant-loop-manner g l =
    let q = asked_of g.R.Reader.reading l.self.trial.now in
    let old = site_of l.initial.renderer in
    GoesOn q (earlier_at l.self.earlier old) old l.renderer (map manner_view l.manners) (map manner_view (drop l.manner-index l.manners)) × AreRefused q (earlier_view l.self.earlier) l.refused
