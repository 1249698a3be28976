use Rattle.std.proofs.Common.{◌≡◌, ◌∙◌, Some, [], ap, length, refl, string_bytes, sum_by, sym}
use Rattle.std.proofs.lemmas.Result.{IfOk-weaker, err_from_is_err_and}
use Rattle.tocmark_event.specs.Text.{text_of}
use Rattle.tocmark_event.specs.View.{event_view}
use Rattle.tocmark_choose.specs.DocumentOf.{document_view, document_flags}
use Rattle.tocmark_state.specs.Walk.{Standing, Walk, flushed_before, hand_walk}
use Rattle.tocmark_state.specs.WorkView.{kept_of, rendering_with, standing_of}
use Rattle.tocmark_state.proofs.Walks.{Makes-at, before_due, before_not_due, before_waiting, due_closed, flushed_ok, flushed_refused, keeping_ok, keeping_refused, sum_by-handed_text}
use Rattle.tocmark_state.proofs.work.Work.flush_before.Given as given
use Rattle.tocmark_state.proofs.work.Work.flush_before.Goals as goal

pub returns-then-not-is_due-clause-made : goal.returns-then-not-is_due-clause-made
returns-then-not-is_due-clause-made g c =
    rw (before_not_due (rendering_with g.R.Reader.reading c.args.tools.now) (event_view text_of c.args.next.now) (standing_of c.args.self.now) (sym c.if-not-is_due.ensures)) (refl, refl)

pub returns-then-not-is_due-clause-count : goal.returns-then-not-is_due-clause-count
returns-then-not-is_due-clause-count g c =
    rw (before_not_due (rendering_with g.R.Reader.reading c.args.tools.now) (event_view text_of c.args.next.now) (standing_of c.args.self.now) (sym c.if-not-is_due.ensures)) refl

pub returns-then-waits-clause-made : goal.returns-then-waits-clause-made
returns-then-waits-clause-made g c =
    rw (before_waiting (rendering_with g.R.Reader.reading c.args.tools.now) (event_view text_of c.args.next.now) (standing_of c.args.self.now) (sym c.if-not-is_due.ensures) (sym c.needs_placeholder-waits.ensures ∙ c.if-waits.true)) (refl, refl)

pub returns-then-waits-clause-count : goal.returns-then-waits-clause-count
returns-then-waits-clause-count g c =
    rw (before_waiting (rendering_with g.R.Reader.reading c.args.tools.now) (event_view text_of c.args.next.now) (standing_of c.args.self.now) (sym c.if-not-is_due.ensures) (sym c.needs_placeholder-waits.ensures ∙ c.if-waits.true)) refl

pub returns-in_err-text-clause-made : goal.returns-in_err-text-clause-made
returns-in_err-text-clause-made g c =
    let p = err_from_is_err_and c.from_residual.result c.from_residual.ensures.1 in
    let how = rendering_with g.R.Reader.reading c.args.tools.now in
    let next = event_view text_of c.args.next.now in
    let s = standing_of c.args.self.now in
    rw (p.1, p.2, before_due how next s (sym c.if-not-is_due.ensures) (sym c.needs_placeholder-waits.ensures ∙ c.if-waits.false))
    (flushed_refused g.W.Taker.takes g.W.Taker.refuses c.args.writer.now how (Some next) s c.in_err-text.field-0.0
    (keeping_refused (document_flags c.args.self.now.document) _ c.in_err-text.field-0.0 c.in_err-text.ensures.chosen))

flushed_to : (g : given.Over) (c : goal.After-hand_on g) → flushed_before (rendering_with g.R.Reader.reading c.args.tools.now) (event_view text_of c.args.next.now) (standing_of c.args.self.now)
    ≡ hand_walk (string_bytes c.in_ok-text.text) (record (standing_of c.args.self.now) { pending = []; document = kept_of c.block.new.self })
flushed_to g c =
    let how = rendering_with g.R.Reader.reading c.args.tools.now in
    let next = event_view text_of c.args.next.now in
    let s = standing_of c.args.self.now in
    before_due how next s (sym c.if-not-is_due.ensures) (sym c.needs_placeholder-waits.ensures ∙ c.if-waits.false)
    ∙ flushed_ok how (Some next) s (string_bytes c.in_ok-text.text, kept_of c.block.new.self)
    (keeping_ok (document_flags c.args.self.now.document) (document_flags c.block.new.self) _ (string_bytes c.in_ok-text.text) (document_view c.block.new.self) c.in_ok-text.ensures.flags c.in_ok-text.ensures.chosen)

pub returns-clause-made : goal.returns-clause-made
returns-clause-made g c =
    rw (flushed_to g c, c.hand_on.ensures.stays, c.clear.ensures, due_closed (standing_of c.args.self.now) (sym c.if-not-is_due.ensures))
    (Makes-at g.W.Taker.takes g.W.Taker.refuses c.args.writer.now c.hand_on.new.writer c.hand_on.result (string_bytes c.in_ok-text.text) (record (standing_of c.args.self.now) { pending = []; open_tags = []; document = kept_of c.block.new.self }) c.hand_on.ensures.handed)

pub returns-clause-count : goal.returns-clause-count
returns-clause-count g c =
    IfOk-weaker c.hand_on.result (λ n. n ≡ length (string_bytes c.in_ok-text.text)) (λ n. n ≡ sum_by length (flushed_before (rendering_with g.R.Reader.reading c.args.tools.now) (event_view text_of c.args.next.now) (standing_of c.args.self.now)).texts)
    (λ n h. h ∙ sym (ap (λ (w : Walk Standing). sum_by length w.texts) (flushed_to g c) ∙ sum_by-handed_text (string_bytes c.in_ok-text.text)))
    c.hand_on.ensures.count
