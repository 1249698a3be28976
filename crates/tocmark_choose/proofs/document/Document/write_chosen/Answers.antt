use Rattle.std.proofs.Common.{refl, subst, sym}
use Rattle.std.proofs.lemmas.Result.{err_from_is_err_and}
use Rattle.std.specs.Prelude.{IsSome}
use Rattle.tocmark_write_renderer.specs.WriterOf.{site_of}
use Rattle.tocmark_choose.specs.DocumentOf.{document_at, document_view}
use Rattle.tocmark_choose.specs.TrialOf.{asked_of}
use Rattle.tocmark_choose.proofs.Documents.{left-at, written-at}
use Rattle.tocmark_choose.proofs.TrialUnits.{back-same}
use Rattle.tocmark_choose.proofs.document.Document.write_chosen.Goals as goal

pub returns-in_err-known-clause-chosen : goal.returns-in_err-known-clause-chosen
returns-in_err-known-clause-chosen g c =
    let p = err_from_is_err_and c.from_residual.result c.from_residual.ensures.1 in
    let q = asked_of g.R.Reader.reading c.args.trial.now in
    let here = site_of c.args.renderer.now in
    let b = document_view c.args.self.now in
    rw (p.1, p.2)
    (left-at q.setting q.unit q.next b c.earlier-earlier.result here c.choose.new.renderer c.in_err-known.field-0.0 (document_at c.args.self.now here)
    (c.earlier-earlier.ensures here) (c.in_err-known.ensures.chosen b))

pub returns-in-Ok-clause-chosen : goal.returns-in-Ok-clause-chosen
returns-in-Ok-clause-chosen g c =
    let q = asked_of g.R.Reader.reading c.args.trial.now in
    let here = site_of c.args.renderer.now in
    let b = document_view c.args.self.now in
    written-at q.setting q.unit q.next b c.earlier-earlier.result here c.choose.new.renderer (document_at c.args.self.now here) (c.earlier-earlier.ensures here) (c.in_ok-known.ensures.chosen b)

pub back-requires : goal.back-requires
back-requires g c =
    let q = asked_of g.R.Reader.reading c.args.trial.now in
    let here = site_of c.args.renderer.now in
    let b = document_view c.args.self.now in
    let w = written-at q.setting q.unit q.next b c.earlier-earlier.result here c.choose.new.renderer (document_at c.args.self.now here) (c.earlier-earlier.ensures here) (c.in_ok-known.ensures.chosen b) in
    subst IsSome (sym w.marked) refl

pub returns-in-Err-clause-chosen : goal.returns-in-Err-clause-chosen
returns-in-Err-clause-chosen g c =
    let q = asked_of g.R.Reader.reading c.args.trial.now in
    let here = site_of c.args.renderer.now in
    let b = document_view c.args.self.now in
    let w = written-at q.setting q.unit q.next b c.earlier-earlier.result here c.choose.new.renderer (document_at c.args.self.now here) (c.earlier-earlier.ensures here) (c.in_ok-known.ensures.chosen b) in
    record { refused = tt; kept = back-same here (site_of c.back.new.self) c.choose.new.renderer.at_mark w.marked c.back.ensures.site }
