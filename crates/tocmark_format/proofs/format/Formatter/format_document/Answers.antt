use Rattle.std.proofs.Common.{◌∙◌, ap, string_bytes, subst, sym}
use Rattle.std.proofs.lemmas.Result.{IfOk-weaker}
use Rattle.tocmark_judge.proofs.Alike.{bare-alike, rest-alike}
use Rattle.tocmark_judge.proofs.Marking.{marked, rest-marked}
use Rattle.tocmark_judge.specs.Letters.{letters}
use Rattle.tocmark_judge.specs.Marks.{after_mark}
use Rattle.tocmark_format.specs.Formatted.{TellsOfPlain}
use Rattle.tocmark_format.proofs.Saying.{bare-told}
use Rattle.tocmark_format.proofs.format.Formatter.format_document.Goals as goal

pub returns-in-Some-clause-mark : goal.returns-in-Some-clause-mark
returns-in-Some-clause-mark g c =
    IfOk-weaker c.format_after_mark.result _ _
    (λ answer h. h ∙ sym (marked c.args.text.now c.in-Some.rest.now c.in-Some.ensures))
    c.format_after_mark.ensures.mark

pub returns-in-Some-clause-letters : goal.returns-in-Some-clause-letters
returns-in-Some-clause-letters g c =
    IfOk-weaker c.format_after_mark.result _ _
    (λ answer h. h ∙ sym (ap letters c.in-Some.ensures))
    c.format_after_mark.ensures.letters

pub returns-in-Some-clause-alike : goal.returns-in-Some-clause-alike
returns-in-Some-clause-alike g c =
    let f = c.args.self.now in
    IfOk-weaker c.format_after_mark.result _ _
    (λ answer h. rest-alike f.judge.folds f.judge.flags f.judge.also.now (g.R.Reader.reading f.judge.reader.now) (g.R.PartReader.definitions f.judge.reader.now) (after_mark (string_bytes answer.text)) c.args.text.now c.in-Some.rest.now c.in-Some.ensures h)
    c.format_after_mark.ensures.alike

pub returns-in-None-clause-mark : goal.returns-in-None-clause-mark
returns-in-None-clause-mark g c = IfOk-weaker c.format_text.result _ _ (λ answer h. h.3) c.format_text.ensures.alike

pub returns-in-None-clause-letters : goal.returns-in-None-clause-letters
returns-in-None-clause-letters g c = IfOk-weaker c.format_text.result _ _ (λ answer h. h.4) c.format_text.ensures.alike

pub returns-in-None-clause-alike : goal.returns-in-None-clause-alike
returns-in-None-clause-alike g c =
    let f = c.args.self.now in
    IfOk-weaker c.format_text.result _ _
    (λ answer h. bare-alike f.judge.folds f.judge.flags f.judge.also.now (g.R.Reader.reading f.judge.reader.now) (g.R.PartReader.definitions f.judge.reader.now) (string_bytes answer.text) c.args.text.now c.in-None.ensures h)
    c.format_text.ensures.alike

pub returns-in-Some-clause-told : goal.returns-in-Some-clause-told
returns-in-Some-clause-told g c =
    let f = c.args.self.now in
    IfOk-weaker c.format_after_mark.result _ _
    (λ answer h. subst (λ t. TellsOfPlain (g.P.Print.prints f.asked.style) f.asked.lines f.asked.ends answer.left.items t (after_mark (string_bytes answer.text))) (sym (rest-marked c.args.text.now c.in-Some.rest.now c.in-Some.ensures)) h)
    c.format_after_mark.ensures.told

pub returns-in-None-clause-told : goal.returns-in-None-clause-told
returns-in-None-clause-told g c =
    let f = c.args.self.now in
    bare-told c.format_text.result (g.P.Print.prints f.asked.style) f.asked.lines f.asked.ends c.args.text.now c.in-None.ensures
    (IfOk-weaker c.format_text.result _ _ (λ answer h. h.3) c.format_text.ensures.alike)
    c.format_text.ensures.told
