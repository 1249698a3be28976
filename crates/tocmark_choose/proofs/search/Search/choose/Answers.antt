use Rattle.std.proofs.Common.{Err, Ok, subst, sym}
use Rattle.std.proofs.lemmas.Result.{err_from_is_err_and}
use Rattle.tocmark_write_renderer.specs.JobOf.{manner_view}
use Rattle.tocmark_write_renderer.specs.WriterOf.{site_of}
use Rattle.tocmark_write_labels.specs.Document.{first_document}
use Rattle.tocmark_choose.specs.TrialOf.{IsFront, asked_of, left_by}
use Rattle.tocmark_choose.proofs.Trials.{none-left}
use Rattle.tocmark_choose.proofs.TrialUnits.{found-there, left-there, plainly-written}
use Rattle.tocmark_choose.proofs.search.Search.choose.Goals as goal

pub returns-in_err-known-clause-chosen : goal.returns-in_err-known-clause-chosen
returns-in_err-known-clause-chosen g c other =
    let p = err_from_is_err_and c.from_residual.result c.from_residual.ensures.1 in
    rw (p.1, p.2) (c.in_err-known.ensures.found other)

pub returns-in-Some-clause-chosen : goal.returns-in-Some-clause-chosen
returns-in-Some-clause-chosen g c other =
    let q = asked_of g.R.Reader.reading c.args.self.now.trial.now in
    let old = site_of c.args.renderer.now in
    found-there q (left_by other c.args.self.now.earlier old) old c.find_candidate.new.renderer c.in_ok-known.field-0 c.in-Some.known c.in-Some.is (c.in_ok-known.ensures.found other)

pub write-requires-clause-front : goal.write-requires-clause-front
write-requires-clause-front g c =
    let q = asked_of g.R.Reader.reading c.args.self.now.trial.now in
    let old = site_of c.args.renderer.now in
    let left = left-there q (left_by first_document c.args.self.now.earlier old) old c.find_candidate.new.renderer c.in_ok-known.field-0 (none-left c.in_ok-known.field-0 c.in_default.not-Some) (c.in_ok-known.ensures.found first_document) in
    subst IsFront (sym left.kept) c.requires.front

pub returns-in_err-write-clause-chosen : goal.returns-in_err-write-clause-chosen
returns-in_err-write-clause-chosen g c other =
    let p = err_from_is_err_and c.from_residual-in_err-write.result c.from_residual-in_err-write.ensures.1 in
    let q = asked_of g.R.Reader.reading c.args.self.now.trial.now in
    let old = site_of c.args.renderer.now in
    let d = left_by other c.args.self.now.earlier old in
    let left = left-there q d old c.find_candidate.new.renderer c.in_ok-known.field-0 (none-left c.in_ok-known.field-0 c.in_default.not-Some) (c.in_ok-known.ensures.found other) in
    rw (p.1, p.2) (plainly-written q d {X = Unit {0}} old c.find_candidate.new.renderer c.write.new.renderer (manner_view c.preferred_manner-manner.result) (Err c.in_err-write.field-0.0) c.requires.front left c.preferred_manner-manner.ensures c.in_err-write.ensures)

pub returns-clause-chosen : goal.returns-clause-chosen
returns-clause-chosen g c other =
    let q = asked_of g.R.Reader.reading c.args.self.now.trial.now in
    let old = site_of c.args.renderer.now in
    let d = left_by other c.args.self.now.earlier old in
    let left = left-there q d old c.find_candidate.new.renderer c.in_ok-known.field-0 (none-left c.in_ok-known.field-0 c.in_default.not-Some) (c.in_ok-known.ensures.found other) in
    plainly-written q d {X = Unit {0}} old c.find_candidate.new.renderer c.write.new.renderer (manner_view c.preferred_manner-manner.result) (Ok tt) c.requires.front left c.preferred_manner-manner.ensures c.in_ok-write.ensures
