use Rattle.std.proofs.Common.{◌≡◌, ◌∙◌, ap, sym, string_bytes, List, ℕ, None, Ok}
use Rattle.std.proofs.lemmas.Result.{err_from_is_err_and}
use Rattle.tocmark_choose.specs.DocumentOf.{document_view, document_flags}
use Rattle.tocmark_state.specs.WorkView.{kept_of, rendering_with}
use Rattle.tocmark_state.proofs.Walks.{choice_empty, choice_some, keeping_ok, keeping_refused}
use Rattle.tocmark_state.proofs.work.Work.last_text.Goals as goal

pub returns-then-is_empty-clause-made : goal.returns-then-is_empty-clause-made
returns-then-is_empty-clause-made g c =
    let how = rendering_with g.R.Reader.reading c.args.tools.now in
    let kept = kept_of c.args.self.now.document in
    choice_empty how kept c.args.self.now.pending.events (sym c.if-is_empty.ensures)
    ∙ ap (λ (t : List ℕ). Ok (t, kept)) (sym c.new.ensures.bytes)

pub returns-in_err-text-clause-made : goal.returns-in_err-text-clause-made
returns-in_err-text-clause-made g c =
    let p = err_from_is_err_and c.from_residual.result c.from_residual.ensures.1 in
    let how = rendering_with g.R.Reader.reading c.args.tools.now in
    rw (p.1, p.2, choice_some how (kept_of c.args.self.now.document) c.args.self.now.pending.events (sym c.if-is_empty.ensures))
    (keeping_refused (document_flags c.args.self.now.document) _ c.in_err-text.field-0.0 c.in_err-text.ensures.chosen)

pub returns-clause-made : goal.returns-clause-made
returns-clause-made g c =
    let how = rendering_with g.R.Reader.reading c.args.tools.now in
    let kept = kept_of c.args.self.now.document in
    let es = c.args.self.now.pending.events in
    let chosen : how.choice kept es None ≡ Ok (string_bytes c.in_ok-text.text, kept_of c.block.new.self) =
    (keeping_ok (document_flags c.args.self.now.document) (document_flags c.block.new.self) _ (string_bytes c.in_ok-text.text) (document_view c.block.new.self) c.in_ok-text.ensures.flags c.in_ok-text.ensures.chosen) in
    choice_some how kept c.args.self.now.pending.events (sym c.if-is_empty.ensures) ∙ chosen
