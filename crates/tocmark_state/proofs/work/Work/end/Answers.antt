use Rattle.std.proofs.Common.{◌∙◌, refl, ap, subst, length, sum_by, string_bytes, sym}
use Rattle.std.proofs.lemmas.Result.{IfOk-weaker, err_from_is_err_and}
use Rattle.tocmark_write_labels.specs.Ending.{holds_raw_block}
use Rattle.tocmark_state.specs.Walk.{Walk, Done, done, ended, last_choice}
use Rattle.tocmark_state.specs.Writes.{Makes}
use Rattle.tocmark_state.specs.WorkView.{at_most, kept_of, standing_of, rendering_with}
use Rattle.tocmark_state.proofs.Walks.{ended_as, ended_open, ended_closed, Gives-refused, last_refused}
use Rattle.tocmark_state.proofs.work.Work.end.Goals as goal

pub returns-then-not-is_whole-clause-made : goal.returns-then-not-is_whole-clause-made
returns-then-not-is_whole-clause-made g c =
    rw (ended_open (rendering_with g.R.Reader.reading c.args.tools.now) (standing_of c.args.self.now) (sym c.if-not-is_whole.ensures.closed)) (refl, refl)

pub returns-in_err-text-clause-made : goal.returns-in_err-text-clause-made
returns-in_err-text-clause-made g c =
    let p = err_from_is_err_and c.from_residual.result c.from_residual.ensures.1 in
    let how = rendering_with g.R.Reader.reading c.args.tools.now in
    let s = standing_of c.args.self.now in
    rw (p.1, p.2, ended_closed how s (sym c.if-not-is_whole.ensures.closed) refl)
    (last_refused g.W.Taker.takes g.W.Taker.refuses c.args.writer.now how s.pending c.in_err-text.field-0.0 (last_choice how s.document s.pending) c.in_err-text.ensures.made)

pub returns-in_err-definitions-clause-made : goal.returns-in_err-definitions-clause-made
returns-in_err-definitions-clause-made g c =
    let p = err_from_is_err_and c.from_residual-in_err-definitions.result c.from_residual-in_err-definitions.ensures.1 in
    rw (p.1, p.2) (Gives-refused g.W.Taker.takes g.W.Taker.refuses c.args.writer.now c.in_err-definitions.field-0.0 _ (ended (rendering_with g.R.Reader.reading c.args.tools.now) (standing_of c.args.self.now)) c.in_err-definitions.ensures)

pub returns-clause-made : goal.returns-clause-made
returns-clause-made g c =
    let how = rendering_with g.R.Reader.reading c.args.tools.now in
    let s = standing_of c.args.self.now in
    let e = ended_as how s c.holds_raw_block-holds_raw.result c.as_str.result.now c.as_str-2.result.now (string_bytes c.in_ok-text.text) (kept_of c.last_text.new.self.document) (sym c.if-not-is_whole.ensures.closed) refl
    (c.holds_raw_block-holds_raw.ensures ∙ ap holds_raw_block c.events.ensures) c.in_ok-text.ensures.made (c.as_str.ensures.value ∙ c.in_ok-definitions.ensures) c.as_str-2.ensures.value in
    subst (λ (w : Walk Done). Makes g.W.Taker.takes g.W.Taker.refuses c.args.writer.now c.hand_last.new.writer c.hand_last.result done w) e c.hand_last.ensures.made

pub returns-clause-count : goal.returns-clause-count
returns-clause-count g c =
    let how = rendering_with g.R.Reader.reading c.args.tools.now in
    let s = standing_of c.args.self.now in
    let e = ended_as how s c.holds_raw_block-holds_raw.result c.as_str.result.now c.as_str-2.result.now (string_bytes c.in_ok-text.text) (kept_of c.last_text.new.self.document) (sym c.if-not-is_whole.ensures.closed) refl
    (c.holds_raw_block-holds_raw.ensures ∙ ap holds_raw_block c.events.ensures) c.in_ok-text.ensures.made (c.as_str.ensures.value ∙ c.in_ok-definitions.ensures) c.as_str-2.ensures.value in
    IfOk-weaker c.hand_last.result _ _ (λ n h. h ∙ ap (λ (w : Walk Done). at_most (sum_by length w.texts)) e) c.hand_last.ensures.count
