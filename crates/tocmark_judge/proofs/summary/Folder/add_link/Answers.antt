use Rattle.std.proofs.Common.{◌∙◌, ◌++◌, ◌∷◌, [], Bool, false, ap, subst, sym}
use Rattle.std.proofs.lemmas.Result.{on_ok_weaker}
use Rattle.tocmark_event.specs.Text.{text_of}
use Rattle.tocmark_event.specs.View.{Start, TagView, tag_view}
use Rattle.tocmark_compare.specs.Digest.{SaysFirst}
use Rattle.tocmark_judge.specs.Same.{folded_tag}
use Rattle.tocmark_judge.proofs.Folding.{folds-more}
use Rattle.tocmark_judge.proofs.summary.Folder.add_link.Goals as goal

pub returns : goal.returns
returns c =
    let old = c.args.self.now in
    let same = c.in_ok-fold_label.ensures ∙ ap folded_tag c.in_ok-copy.ensures in
    on_ok_weaker c.add.result
    (λ said before plain h.
    folds-more old (record { digest = c.add.new.self; spot = record { is_raw = false; is_behind_white = false } }) (Start (tag_view text_of c.args.tag.now))
    (λ more k. subst (λ (t : TagView). SaysFirst c.add.new.self (more ++ Start t ∷ [])) same (said more k))
    (ap (λ (b : Bool). record { raw = b; behind = false }) (sym plain)) before h)
    c.add.ensures
