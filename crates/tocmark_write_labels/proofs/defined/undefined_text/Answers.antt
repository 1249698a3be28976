use Rattle.std.proofs.Common.{◌≡◌, ◌∙◌, ap, map, string_bytes, sym}
use Rattle.std.proofs.lemmas.Result.{IfOk-weaker}
use Rattle.tocmark_write_renderer.specs.WriterOf.{reference_view}
use Rattle.tocmark_write_labels.specs.Defined.{undefined}
use Rattle.tocmark_write_labels.specs.Definitions.{definitions_text}
use Rattle.tocmark_write_labels.specs.DefinitionsOf.{key_view, lines_behind}
use Rattle.tocmark_write_labels.proofs.DefinedLabels.{distinct-lines, without-definitions}
use Rattle.tocmark_write_labels.proofs.defined.undefined_text.Goals as goal

pub returns-then-is_empty : goal.returns-then-is_empty
returns-then-is_empty c =
    let references = map reference_view c.args.references.now in
    IfOk-weaker c.definitions_text.result (λ t. string_bytes t ≡ definitions_text references c.args.feeds) _
    (λ t h. h ∙ ap (λ rs. definitions_text rs c.args.feeds) (sym (without-definitions c.args.defined.now references (sym c.if-is_empty.ensures))))
    c.definitions_text.ensures

pub returns : goal.returns
returns c =
    let left = undefined (map reference_view c.args.defined.now) (map reference_view c.args.references.now) in
    IfOk-weaker c.text_of.result (λ t. string_bytes t ≡ lines_behind (map key_view c.as_slice.result.now) c.args.feeds) _
    (λ t h. h ∙ (ap (λ rs. lines_behind rs c.args.feeds) (ap (map key_view) c.as_slice.ensures.keys ∙ c.in_ok-keys.ensures) ∙ distinct-lines left c.args.feeds))
    c.text_of.ensures
