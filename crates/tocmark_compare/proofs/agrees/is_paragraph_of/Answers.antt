use Rattle.std.proofs.Common.{◌∙◌, ◌++◌, ◌∷◌, [], map, sym}
use Rattle.tocmark_event.specs.Text.{text_of}
use Rattle.tocmark_event.specs.View.{End, event_view}
use Rattle.tocmark_event.specs.declared.event.TagEnd.TheVariants as end
use Rattle.tocmark_event.specs.Merged.{merged}
use Rattle.tocmark_spelling.specs.Buffered.{event_of}
use Rattle.tocmark_compare.proofs.Agreements.{behind-start, not-begun}
use Rattle.tocmark_compare.proofs.agrees.is_paragraph_of.Goals as goal

pub returns-then-not-begins_paragraph : goal.returns-then-not-begins_paragraph
returns-then-not-begins_paragraph c =
    not-begun (map (λ e. event_view text_of e.0) c.args.found.now) (merged (map event_of c.args.unit.now) ++ End end.Paragraph ∷ []) (sym c.begins_paragraph.ensures ∙ c.if-not-begins_paragraph.true)

pub returns : goal.returns
returns c =
    c.alike.ensures
    ∙ behind-start (λ e. event_view text_of e.0) c.args.found.now c.rest_found.result.now (map event_of c.args.unit.now) c.rest_found.ensures (sym c.begins_paragraph.ensures ∙ c.if-not-begins_paragraph.false)
