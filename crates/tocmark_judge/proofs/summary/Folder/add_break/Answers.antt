use Rattle.std.proofs.Common.{◌++◌, true, List, ap, refl, subst, sym}
use Rattle.std.proofs.lemmas.Result.{on_ok_weaker}
use Rattle.tocmark_event.specs.View.{EventView, Leaf, SoftBreak}
use Rattle.tocmark_compare.specs.Digest.{SaysFirst}
use Rattle.tocmark_judge.specs.Same.{folded_break}
use Rattle.tocmark_judge.proofs.Folding.{folds-more, says-nothing}
use Rattle.tocmark_judge.proofs.summary.Folder.add_break.Goals as goal

pub returns-then-spot : goal.returns-then-spot
returns-then-spot c = λ before h.
    let old = c.args.self.now in
    folds-more old (record { digest = old.digest; spot = record { is_raw = old.spot.is_raw; is_behind_white = true } }) (Leaf SoftBreak)
    (says-nothing old.digest (folded_break old.spot.is_behind_white) (ap folded_break c.if-spot.true))
    refl before h

pub returns : goal.returns
returns c =
    let old = c.args.self.now in
    on_ok_weaker c.add.result
    (λ said before h.
    folds-more old (record { digest = c.add.new.self; spot = record { is_raw = old.spot.is_raw; is_behind_white = true } }) (Leaf SoftBreak)
    (λ more k. subst (λ (es : List EventView). SaysFirst c.add.new.self (more ++ es)) (sym (ap folded_break c.if-spot.false)) (said more k))
    refl before h)
    c.add.ensures
