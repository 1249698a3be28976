use Rattle.std.proofs.Common.{◌∙◌, string_bytes, sym}
use Rattle.std.proofs.lemmas.Option.{IfSome_then}
use Rattle.std.proofs.lemmas.Result.{IfOk-weaker}
use Rattle.tocmark_judge.proofs.Alike.{same-alike}
use Rattle.tocmark_format.proofs.format.Formatter.rounds.Goals as goal

pub returns-then-is_same_text-clause-alike : goal.returns-then-is_same_text-clause-alike
returns-then-is_same_text-clause-alike g c =
    let f = c.args.self.now in
    IfOk-weaker c.answered.result _ _
    (λ answer h. IfSome_then answer h
    (λ a e. same-alike f.judge.folds f.judge.flags f.judge.also.now (g.R.Reader.reading f.judge.reader.now) (g.R.PartReader.definitions f.judge.reader.now) (string_bytes a.text) c.args.source.now (e ∙ sym c.as_str.ensures.value ∙ c.is_same_text.ensures c.if-is_same_text.true)))
    c.answered.ensures.text

pub returns-then-is_same_text-clause-told : goal.returns-then-is_same_text-clause-told
returns-then-is_same_text-clause-told g c =
    IfOk-weaker c.answered.result _ _
    (λ answer h. IfSome_then answer h (λ a e. e c.in_ok-printed.ensures.prints))
    c.answered.ensures.told

pub returns-then-branch-clause-told : goal.returns-then-branch-clause-told
returns-then-branch-clause-told g c =
    IfOk-weaker c.answered-then-branch.result _ _
    (λ answer h. IfSome_then answer h (λ a e. e c.in_ok-printed.ensures.prints))
    c.answered-then-branch.ensures.told
