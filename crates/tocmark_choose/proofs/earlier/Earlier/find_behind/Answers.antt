use Rattle.std.proofs.Common.{◌≡◌, ◌∙◌, subst, sym}
use Rattle.std.specs.Prelude.{IfOk}
use Rattle.tocmark_choose.specs.TrialOf.{asked_of, earlier_view, reads_back_in}
use Rattle.tocmark_choose.proofs.TrialUnits.{whole-alone, whole-behind}
use Rattle.tocmark_choose.proofs.earlier.Earlier.find_behind.Goals as goal

pub returns-then-is_empty-clause-read : goal.returns-then-is_empty-clause-read
returns-then-is_empty-clause-read g c =
    let q = asked_of g.R.Reader.reading c.args.trial.now in
    subst (λ w. IfOk c.find_in.result (λ found. found ≡ reads_back_in q (earlier_view c.args.self.now) w)) (whole-alone c.args.definitions.now c.args.text.now (sym c.is_empty.ensures ∙ c.if-is_empty.true)) c.find_in.ensures.read

pub returns-clause-read : goal.returns-clause-read
returns-clause-read g c =
    let q = asked_of g.R.Reader.reading c.args.trial.now in
    subst (λ w. IfOk c.find_in-2.result (λ found. found ≡ reads_back_in q (earlier_view c.args.self.now) w)) (whole-behind c.args.definitions.now c.args.text.now c.as_str.result.now (sym c.is_empty.ensures ∙ c.if-is_empty.false) (c.as_str.ensures.value ∙ c.in_ok-whole.ensures)) c.find_in-2.ensures.read
