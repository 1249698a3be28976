use Rattle.std.proofs.Common.{◌∙◌, ◌++◌, false, List, ap, subst, sym}
use Rattle.std.proofs.lemmas.Result.{on_ok_weaker}
use Rattle.tocmark_event.specs.Text.{text_of}
use Rattle.tocmark_event.specs.View.{EventView, event_view}
use Rattle.tocmark_compare.specs.Digest.{SaysFirst}
use Rattle.tocmark_compare.specs.Given.{given_events}
use Rattle.tocmark_judge.proofs.Folding.{folds-more}
use Rattle.tocmark_judge.proofs.summary.Folder.add_plain.Goals as goal

pub returns : goal.returns
returns c =
    let old = c.args.self.now in
    let e = event_view text_of c.args.pair.now.0 in
    on_ok_weaker c.add.result
    (λ said before plain h.
    folds-more old (record { digest = c.add.new.self; spot = record { is_raw = c.args.is_raw; is_behind_white = false } }) e
    (λ more k. subst (λ (es : List EventView). SaysFirst c.add.new.self (more ++ es))
    (ap given_events c.from_ref.ensures.value ∙ sym plain.counts) (said more k))
    (sym plain.next) before h)
    c.add.ensures
