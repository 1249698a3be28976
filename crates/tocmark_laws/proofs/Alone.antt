-- What is chosen for the only unit of a document, where it isn't checked and has no sources.
use Rattle.std.proofs.Common.{◌≡◌, List, false, None, refl, ap, ◌∙◌, ℕ}
use Rattle.std.specs.Prelude.{◌&&◌}
use Rattle.tocmark_event.specs.Forest.{flat}
use Rattle.tocmark_event.specs.Options.{OptionsView}
use Rattle.tocmark_event.specs.Reading.{ReadingView}
use Rattle.tocmark_event.specs.declared.event.flags.ParserOptions.{ParserOptions}
use Rattle.tocmark_spelling.specs.Body.{Trees}
use Rattle.tocmark_spelling.specs.PlanOf.{setting_of}
use Rattle.tocmark_choose.specs.Candidates.{has_source, is_delimiter_block}
use Rattle.tocmark_choose.specs.Choice.{preferred, has_standard_markers}
use Rattle.tocmark_write_labels.specs.Document.{first_document}
use Rattle.tocmark_write_pending.specs.Placeholder.{needs_placeholder}
use Rattle.tocmark_choose.proofs.Chosen.{chosen-unlabelled}
use Rattle.tocmark_choose.proofs.PlainUnits.{choice-unasked}
use Rattle.tocmark_state.specs.WorkView.{keeping, rendering}

-- it takes its preferred spelling
pub alone-chosen : (o : OptionsView) (reading : List ℕ → ParserOptions → ReadingView) (flags : ParserOptions) (f : Trees)
    → o.check_plain_blocks ≡ false → needs_placeholder f ≡ false → is_delimiter_block f ≡ false → has_source f ≡ false
    → (rendering o reading).choice (record { flags = flags; document = first_document }) (flat f) None ≡ keeping flags (preferred (setting_of o flags reading None) first_document f None)
alone-chosen o reading flags f off plain undelimited unsourced =
    let s = setting_of o flags reading None in
    ap (λ r. keeping flags r)
    (chosen-unlabelled s first_document f None refl plain
    ∙ choice-unasked s first_document f None undelimited off (ap (λ b. b && has_standard_markers o) unsourced))
