use Rattle.std.proofs.Common.{◌∙◌, ℕ, List, ap, refl, sym, subst, None, Option, map}
use Rattle.std.proofs.lemmas.Result.{on_err_weaker}
use Rattle.tocmark_event.specs.View.{EventView}
use Rattle.tocmark_event.specs.declared.event.flags.ParserOptions.{ParserOptions}
use Rattle.tocmark_spelling.specs.Buffered.{following_view, next_view}
use Rattle.tocmark_write_labels.specs.Defined.{behind}
use Rattle.tocmark_write_labels.specs.Document.{DocumentView}
use Rattle.tocmark_write_labels.specs.LabelsOf.{label_now}
use Rattle.tocmark_write_labels.specs.Units.{label_for}
use Rattle.tocmark_write_pending.specs.Units.{trees_of}
use Rattle.tocmark_write_renderer.specs.WriterOf.{reference_view}
use Rattle.tocmark_choose.specs.Choice.{choice}
use Rattle.tocmark_choose.specs.DocumentOf.{document_flags, document_view, Spells}
use Rattle.tocmark_choose.specs.TrialOf.{or_no_trees, setting_with}
use Rattle.tocmark_choose.proofs.Documents.{balanced-chosen, behind-none, stays-refused, unbalanced-refused}
use Rattle.tocmark_choose.proofs.document.Document.block.Goals as goal

pub returns-then-not-is_whole-clause-chosen : goal.returns-then-not-is_whole-clause-chosen
returns-then-not-is_whole-clause-chosen g c =
    let s = setting_with g.R.Reader.reading c.args.tools.now (document_flags c.args.self.now) None in
    let d = behind (map reference_view c.args.tools.now.defined.now) (document_view c.args.self.now) in
    unbalanced-refused s d c.args.unit.now.events (next_view c.args.next) (sym c.if-not-is_whole.ensures.whole)

pub returns-clause-chosen : goal.returns-clause-chosen
returns-clause-chosen g c =
    let reading = g.R.Reader.reading in
    let tools = c.args.tools.now in
    let s = setting_with reading tools (document_flags c.args.self.now) None in
    let d = behind (map reference_view tools.defined.now) (document_view c.args.self.now) in
    let es = c.args.unit.now.events in
    let f = or_no_trees (trees_of es) in
    let next = next_view c.args.next in
    let new = document_view c.spell.new.self in
    let result = c.spell.result in
    let knows = c.in_ok-know.ensures.known in
    let flags = c.in_ok-know.ensures.flags in
    let lent = label_now c.lent_label-label.result in
    let follows = following_view c.lent_event-next.result in
    let label = c.lent_label-label.ensures ∙ c.in_ok-kept_label.ensures s refl (sym flags) ∙ ap (λ (x : DocumentView). label_for s x es next) knows in
    let F : ParserOptions → Type 0 = λ x. Spells new result (choice (setting_with reading tools x lent) (document_view c.know.new.self) f follows) in
    let D : DocumentView → Type 0 = λ x. Spells new result (choice (record s { label = lent }) x f follows) in
    let L : Option (List ℕ) → Type 0 = λ x. Spells new result (choice (record s { label = x }) d f follows) in
    let N : Option EventView → Type 0 = λ x. Spells new result (choice (record s { label = label_for s d es next }) d f x) in
    subst (Spells new result) (sym (balanced-chosen s d es next (sym c.if-not-is_whole.ensures.whole)))
    (subst N (c.lent_event-next.ensures ∙ c.in_ok-kept_next.ensures) (subst L label (subst D knows (subst F flags c.spell.ensures.chosen))))

pub returns-in_err-know-clause-stays : goal.returns-in_err-know-clause-stays
returns-in_err-know-clause-stays g c none = stays-refused c.from_residual.result (c.in_err-know.ensures.stays none)

pub returns-then-not-is_whole-clause-stays : goal.returns-then-not-is_whole-clause-stays
returns-then-not-is_whole-clause-stays g c none = c.in_ok-know.ensures.known ∙ behind-none c.args.tools.now.defined.now (document_view c.args.self.now) none

pub returns-in_err-kept_label-clause-stays : goal.returns-in_err-kept_label-clause-stays
returns-in_err-kept_label-clause-stays g c none =
    stays-refused c.from_residual-in_err-kept_label.result (c.in_ok-know.ensures.known ∙ behind-none c.args.tools.now.defined.now (document_view c.args.self.now) none)

pub returns-in_err-kept_next-clause-stays : goal.returns-in_err-kept_next-clause-stays
returns-in_err-kept_next-clause-stays g c none =
    stays-refused c.from_residual-in_err-kept_next.result (c.in_ok-know.ensures.known ∙ behind-none c.args.tools.now.defined.now (document_view c.args.self.now) none)

pub returns-clause-stays : goal.returns-clause-stays
returns-clause-stays g c none =
    on_err_weaker c.spell.result (λ same. same ∙ c.in_ok-know.ensures.known ∙ behind-none c.args.tools.now.defined.now (document_view c.args.self.now) none) c.spell.ensures.stays

pub returns-in_err-found-clause-stays : goal.returns-in_err-found-clause-stays
returns-in_err-found-clause-stays g c none =
    stays-refused c.from_residual-in_err-found.result (c.in_ok-know.ensures.known ∙ behind-none c.args.tools.now.defined.now (document_view c.args.self.now) none)
