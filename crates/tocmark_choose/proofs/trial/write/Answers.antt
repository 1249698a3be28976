use Rattle.std.proofs.Common.{◌∙◌, [], ap, subst, sym}
use Rattle.tocmark_write_emphasis.specs.Low.{OpensLow}
use Rattle.tocmark_write_renderer.specs.JobOf.{manner_view}
use Rattle.tocmark_write_renderer.specs.WriterOf.{Comes, levels_of, page_of, site_of}
use Rattle.tocmark_spelling.specs.Body.{Trees}
use Rattle.tocmark_spelling.specs.Machine.{around}
use Rattle.tocmark_spelling.specs.Page.{Path, Site}
use Rattle.tocmark_spelling.specs.Spelling.{spelling}
use Rattle.tocmark_choose.specs.TrialOf.{asked_of, spelled_at}
use Rattle.tocmark_choose.proofs.TrialUnits.{trial-written, written-back, written-there}
use Rattle.tocmark_choose.proofs.trial.write.Goals as goal

pub returns-then-is_err : goal.returns-then-is_err
returns-then-is_err g c =
    let t = c.args.trial.now in
    let q = asked_of g.R.Reader.reading t in
    let m = manner_view c.args.manner.now in
    let old = site_of c.args.renderer.now in
    let begun = c.mark.new.self in
    let w = c.write_unit-result in
    let Low : Path → Type 0 = OpensLow c.args.manner.now.delimiters in
    let P : Trees → Type 0 = λ f. Comes w.result w.new.renderer (spelling q.setting m f (around [] [] q.next) (levels_of begun) (page_of begun)) in
    let Q : Site → Type 0 = λ x. Comes w.result w.new.renderer (spelled_at q x m) in
    let low : Low (levels_of begun) = subst Low (sym (ap (λ x. x.path) (c.mark.ensures.site ∙ c.requires.front))) (λ e. tt) in
    written-back old w.new.renderer (spelled_at q old m) (w.ensures.mark ∙ c.mark.ensures.mark) c.back.new.self w.result (sym c.is_err.ensures.value ∙ c.if-is_err.true) c.back.ensures.site
    (subst Q c.mark.ensures.site (trial-written g.R.Reader.reading t c.requires.ready P (λ f is. w.ensures.spelled f is low)))

pub returns-else-is_err : goal.returns-else-is_err
returns-else-is_err g c =
    let t = c.args.trial.now in
    let q = asked_of g.R.Reader.reading t in
    let m = manner_view c.args.manner.now in
    let old = site_of c.args.renderer.now in
    let begun = c.mark.new.self in
    let w = c.write_unit-result in
    let Low : Path → Type 0 = OpensLow c.args.manner.now.delimiters in
    let P : Trees → Type 0 = λ f. Comes w.result w.new.renderer (spelling q.setting m f (around [] [] q.next) (levels_of begun) (page_of begun)) in
    let Q : Site → Type 0 = λ x. Comes w.result w.new.renderer (spelled_at q x m) in
    let low : Low (levels_of begun) = subst Low (sym (ap (λ x. x.path) (c.mark.ensures.site ∙ c.requires.front))) (λ e. tt) in
    written-there old w.new.renderer (spelled_at q old m) (w.ensures.mark ∙ c.mark.ensures.mark) w.result (sym c.is_err.ensures.value ∙ c.if-is_err.false)
    (subst Q c.mark.ensures.site (trial-written g.R.Reader.reading t c.requires.ready P (λ f is. w.ensures.spelled f is low)))
