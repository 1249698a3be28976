use Rattle.std.proofs.Common.{◌≡◌, ◌+◌, ◌∙◌, ℕ, Err, Ok, ap, length, sum_by, sym}
use Rattle.std.proofs.lemmas.List.Sums.{sum_by-append}
use Rattle.std.proofs.lemmas.Result.{err_from_is_err_and}
use Rattle.tocmark_state.specs.Walk.{done, Done, hand_walk, handed_text, two_texts}
use Rattle.tocmark_state.proofs.Walks.{Makes-then, RefusesAt-longer, sum_by-handed_text}
use Rattle.tocmark_state.proofs.hand.hand_both.Goals as goal

pub returns-in_err-written-clause-made : goal.returns-in_err-written-clause-made
returns-in_err-written-clause-made g c =
    let p = err_from_is_err_and c.from_residual.result c.from_residual.ensures.1 in
    rw (p.1, p.2) (RefusesAt-longer g.W.Taker.takes g.W.Taker.refuses c.args.writer.now c.hand.new.writer c.in_err-written.field-0.0 (handed_text c.args.first.now) (Ok done) (λ (d : Done). hand_walk c.args.second.now done) c.in_err-written.ensures.handed)

pub returns-in_err-more-clause-made : goal.returns-in_err-more-clause-made
returns-in_err-more-clause-made g c =
    let p = err_from_is_err_and c.from_residual-in_err-more.result c.from_residual-in_err-more.ensures.1 in
    rw (p.1, p.2) (Makes-then {X = ℕ} g.W.Taker.takes g.W.Taker.refuses c.args.writer.now c.hand.new.writer c.hand-2.new.writer (Err c.in_err-more.field-0.0) done done (handed_text c.args.first.now) (λ (d : Done). hand_walk c.args.second.now done) c.in_ok-written.ensures.handed.1 c.in_err-more.ensures.handed)

pub returns-clause-made : goal.returns-clause-made
returns-clause-made g c =
    Makes-then {X = ℕ} g.W.Taker.takes g.W.Taker.refuses c.args.writer.now c.hand.new.writer c.hand-2.new.writer (Ok c.saturating_add.result) done done (handed_text c.args.first.now) (λ (d : Done). hand_walk c.args.second.now done) c.in_ok-written.ensures.handed.1 c.in_ok-more.ensures.handed

pub returns-clause-count : goal.returns-clause-count
returns-clause-count g c =
    let sum : sum_by length (two_texts c.args.first.now c.args.second.now).texts ≡ c.in_ok-written.written + c.in_ok-more.more =
    sum_by-append length (handed_text c.args.first.now) (handed_text c.args.second.now)
    ∙ ap (λ n. n + sum_by length (handed_text c.args.second.now)) (sum_by-handed_text c.args.first.now ∙ sym c.in_ok-written.ensures.count)
    ∙ ap (λ n. c.in_ok-written.written + n) (sum_by-handed_text c.args.second.now ∙ sym c.in_ok-more.ensures.count) in
    rw sum c.saturating_add.ensures
