use Rattle.std.proofs.Common.{◌≡◌, ◌∙◌, ◌++◌, false, List, length, ap, string_bytes, subst, sym}
use Rattle.std.proofs.lemmas.Bool.{eqb-false, eqb-true}
use Rattle.std.proofs.lemmas.Result.{on_ok_weaker}
use Rattle.tocmark_event.specs.View.{EventView, Leaf, Text}
use Rattle.tocmark_compare.specs.Digest.{SaysFirst}
use Rattle.tocmark_judge.specs.Same.{folded_event, folded_text}
use Rattle.tocmark_judge.specs.Summaries.{spot_view}
use Rattle.tocmark_judge.proofs.Folding.{folds-more, no-text, says-nothing, some-text, text-counts, text-next}
use Rattle.tocmark_judge.proofs.summary.Folder.add_folded.Goals as goal

pub returns-then-is_empty : goal.returns-then-is_empty
returns-then-is_empty c = λ before plain h.
    let old = c.args.self.now in
    let e : string_bytes c.push_folded.new.folded ≡ folded_text old.spot.is_behind_white c.args.text.now = c.in_ok-white.ensures.text ∙ ap (λ xs. xs ++ folded_text old.spot.is_behind_white c.args.text.now) c.new-folded.ensures.bytes in
    folds-more old (record { digest = old.digest; spot = record { is_raw = false; is_behind_white = c.in_ok-white.white } }) (Leaf (Text c.args.text.now))
    (says-nothing old.digest (folded_event (spot_view old.spot) (Leaf (Text c.args.text.now)))
    (text-counts (spot_view old.spot) c.args.text.now (string_bytes c.push_folded.new.folded) plain e ∙ no-text (string_bytes c.push_folded.new.folded) (ap length (sym c.as_str.ensures.value) ∙ eqb-true _ 0 (sym c.if-is_empty.ensures))))
    (text-next (spot_view old.spot) c.args.text.now c.in_ok-white.white plain c.in_ok-white.ensures.white)
    before h

pub returns : goal.returns
returns c =
    let old = c.args.self.now in
    let e : string_bytes c.push_folded.new.folded ≡ folded_text old.spot.is_behind_white c.args.text.now = c.in_ok-white.ensures.text ∙ ap (λ xs. xs ++ folded_text old.spot.is_behind_white c.args.text.now) c.new-folded.ensures.bytes in
    on_ok_weaker c.add.result
    (λ said before plain h.
    folds-more old (record { digest = c.add.new.self; spot = record { is_raw = false; is_behind_white = c.in_ok-white.white } }) (Leaf (Text c.args.text.now))
    (λ more k. subst (λ (es : List EventView). SaysFirst c.add.new.self (more ++ es))
    (sym (text-counts (spot_view old.spot) c.args.text.now (string_bytes c.push_folded.new.folded) plain e ∙ some-text (string_bytes c.push_folded.new.folded) (λ z. eqb-false _ 0 (sym c.if-is_empty.ensures) (ap length c.as_str.ensures.value ∙ z)))) (said more k))
    (text-next (spot_view old.spot) c.args.text.now c.in_ok-white.white plain c.in_ok-white.ensures.white) before h)
    c.add.ensures
