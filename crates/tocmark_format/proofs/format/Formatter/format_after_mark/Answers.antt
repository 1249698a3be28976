use Rattle.std.proofs.Common.{◌∙◌, ◌++◌, ap, string_bytes, subst, sym}
use Rattle.tocmark_judge.specs.Alike.{AreAlike}
use Rattle.tocmark_judge.specs.Letters.{letters}
use Rattle.tocmark_judge.specs.Marks.{after_mark, mark}
use Rattle.tocmark_judge.proofs.Alike.{alike-rest}
use Rattle.tocmark_judge.proofs.Marking.{marked, rest-marked}
use Rattle.tocmark_format.proofs.Saying.{told-equal}
use Rattle.tocmark_format.proofs.format.Formatter.format_after_mark.Goals as goal

pub returns-clause-mark : goal.returns-clause-mark
returns-clause-mark g c = marked (string_bytes c.in_ok-text.text) c.as_str.result.now c.in_ok-text.ensures

pub returns-clause-letters : goal.returns-clause-letters
returns-clause-letters g c =
    ap letters c.in_ok-text.ensures
    ∙ ap (λ rest. letters mark ++ rest) (ap letters c.as_str.ensures.value ∙ c.in_ok-rest.ensures.alike.4)

pub returns-clause-alike : goal.returns-clause-alike
returns-clause-alike g c =
    let f = c.args.self.now in
    let read = g.R.Reader.reading f.judge.reader.now in
    let defined = g.R.PartReader.definitions f.judge.reader.now in
    alike-rest f.judge.folds f.judge.flags f.judge.also.now read defined c.args.text.now (string_bytes c.in_ok-text.text) c.as_str.result.now c.in_ok-text.ensures
    (subst (λ t. AreAlike f.judge.folds f.judge.flags f.judge.also.now read defined t c.args.text.now) (sym c.as_str.ensures.value) c.in_ok-rest.ensures.alike)

pub returns-clause-told : goal.returns-clause-told
returns-clause-told g c =
    let f = c.args.self.now in
    told-equal (g.P.Print.prints f.asked.style) f.asked.lines f.asked.ends c.args.text.now (after_mark (string_bytes c.in_ok-text.text)) _
    (rest-marked (string_bytes c.in_ok-text.text) c.as_str.result.now c.in_ok-text.ensures ∙ c.as_str.ensures.value)
    c.in_ok-rest.ensures.told
