use Rattle.std.proofs.Common.{◌∙◌, [], List, ℕ, ap, length, refl, subst, sum_by, sym}
use Rattle.std.proofs.lemmas.Result.{IfOk-weaker, err_from_is_err_and}
use Rattle.tocmark_state.specs.WorkView.{at_most}
use Rattle.tocmark_state.specs.Walk.{Walk, Done, done, last_walk, two_texts}
use Rattle.tocmark_state.specs.Writes.{Makes}
use Rattle.tocmark_state.proofs.Walks.{last-front, last-behind}
use Rattle.tocmark_state.proofs.hand.hand_last.Goals as goal

pub returns-in_err-whole-clause-made : goal.returns-in_err-whole-clause-made
returns-in_err-whole-clause-made g c =
    let p = err_from_is_err_and c.from_residual.result c.from_residual.ensures.1 in
    rw (p.1, p.2) ([], (last_walk c.args.holds_raw c.args.definitions.now c.args.text.now).texts, refl, refl)

pub returns-then-stand_in_front-clause-made : goal.returns-then-stand_in_front-clause-made
returns-then-stand_in_front-clause-made g c =
    let e = ap (λ (t : List ℕ). two_texts t []) (c.as_str.ensures.value ∙ c.in_ok-whole.ensures)
    ∙ last-front c.args.holds_raw c.args.definitions.now c.args.text.now (sym c.stand_in_front.ensures ∙ c.if-stand_in_front.true) in
    subst (λ (w : Walk Done). Makes g.W.Taker.takes g.W.Taker.refuses c.args.writer.now c.hand_both.new.writer c.hand_both.result done w) e c.hand_both.ensures.made

pub returns-then-stand_in_front-clause-count : goal.returns-then-stand_in_front-clause-count
returns-then-stand_in_front-clause-count g c =
    let e = ap (λ (t : List ℕ). two_texts t []) (c.as_str.ensures.value ∙ c.in_ok-whole.ensures)
    ∙ last-front c.args.holds_raw c.args.definitions.now c.args.text.now (sym c.stand_in_front.ensures ∙ c.if-stand_in_front.true) in
    IfOk-weaker c.hand_both.result _ _ (λ n h. h ∙ ap (λ (w : Walk Done). at_most (sum_by length w.texts)) e) c.hand_both.ensures.count

pub returns-clause-made : goal.returns-clause-made
returns-clause-made g c =
    let e = last-behind c.args.holds_raw c.args.definitions.now c.args.text.now (sym c.stand_in_front.ensures ∙ c.if-stand_in_front.false) in
    subst (λ (w : Walk Done). Makes g.W.Taker.takes g.W.Taker.refuses c.args.writer.now c.hand_both-2.new.writer c.hand_both-2.result done w) e c.hand_both-2.ensures.made

pub returns-clause-count : goal.returns-clause-count
returns-clause-count g c =
    let e = last-behind c.args.holds_raw c.args.definitions.now c.args.text.now (sym c.stand_in_front.ensures ∙ c.if-stand_in_front.false) in
    IfOk-weaker c.hand_both-2.result _ _ (λ n h. h ∙ ap (λ (w : Walk Done). at_most (sum_by length w.texts)) e) c.hand_both-2.ensures.count
