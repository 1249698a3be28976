use Rattle.std.proofs.Common.{◌∙◌, ap, sym}
use Rattle.std.specs.Prelude.{is_some}
use Rattle.std.proofs.lemmas.Result.{err_from_is_err_and}
use Rattle.tocmark_write_renderer.specs.JobOf.{manner_view}
use Rattle.tocmark_write_renderer.specs.WriterOf.{site_of}
use Rattle.tocmark_choose.specs.TrialOf.{asked_of, earlier_at}
use Rattle.tocmark_choose.proofs.TrialUnits.{one-stopped, one-lost, one-found}
use Rattle.tocmark_choose.proofs.earlier.Earlier.try_one.Goals as goal

pub returns-in_err-write-clause-tried : goal.returns-in_err-write-clause-tried
returns-in_err-write-clause-tried g c =
    let p = err_from_is_err_and c.from_residual.result c.from_residual.ensures.1 in
    let q = asked_of g.R.Reader.reading c.args.trial.now in
    let old = site_of c.args.renderer.now in
    rw (p.1, p.2) (one-stopped q (earlier_at c.args.self.now old) (manner_view c.args.manner.now) old c.requires.front c.write.new.renderer c.in_err-write.field-0.0 c.in_err-write.ensures)

pub returns-in-Ok-Some-clause-tried : goal.returns-in-Ok-Some-clause-tried
returns-in-Ok-Some-clause-tried g c =
    let q = asked_of g.R.Reader.reading c.args.trial.now in
    let old = site_of c.args.renderer.now in
    one-found q (earlier_at c.args.self.now old) (manner_view c.args.manner.now) old c.requires.front c.write.new.renderer c.in_ok-write.ensures (sym c.in-Ok-Some.ensures.read ∙ ap is_some c.in-Ok-Some.field-0-is)

pub returns-in-Ok-None-clause-tried : goal.returns-in-Ok-None-clause-tried
returns-in-Ok-None-clause-tried g c =
    let q = asked_of g.R.Reader.reading c.args.trial.now in
    let old = site_of c.args.renderer.now in
    one-lost q (earlier_at c.args.self.now old) (manner_view c.args.manner.now) old c.requires.front c.write.new.renderer c.in_ok-write.ensures c.back.new.self c.back.ensures.site (sym c.in-Ok-None.ensures.read ∙ ap is_some c.in-Ok-None.field-0-is)
