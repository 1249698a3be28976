-- Standings that differ in the texts of earlier units alone.
use Rattle.std.specs.Prelude.{◌≡◌, ℕ, List}
use Rattle.tocmark_event.specs.Options.{OptionsView}
use Rattle.tocmark_event.specs.Reading.{ReadingView}
use Rattle.tocmark_event.specs.declared.event.flags.ParserOptions.{ParserOptions}
use Rattle.tocmark_spelling.specs.Page.{Reference}
use Rattle.tocmark_write_labels.specs.Document.{literal_in}
use Rattle.tocmark_state.specs.Ranges.{Pair}
use Rattle.tocmark_state.specs.Walk.{Kept, Standing, script}
use Rattle.tocmark_state.specs.WorkView.{rendering_behind}

-- a document whose earlier texts with a bracket are these
abbrev pub kept_with : List (List ℕ) → Kept → Kept
kept_with texts kept = record kept { document = record kept.document { bracketed = texts } }

-- a standing whose document is so
abbrev pub standing_with : List (List ℕ) → Standing → Standing
standing_with texts s = record s { document = kept_with texts s.document }

-- where the texts of two standings have the same literal labels, and all else is the same, all further events hand the same texts
abbrev pub LiteralLabelsCount : Type 0
LiteralLabelsCount =
    (defined : List Reference) (options : OptionsView) (reading : List ℕ → ParserOptions → ReadingView) (source : List ℕ)
    (s : Standing) (texts : List (List ℕ)) (p : List Pair) →
    literal_in reading s.document.flags texts ≡ literal_in reading s.document.flags s.document.document.bracketed →
    script (rendering_behind defined options reading) source (standing_with texts s) p
    ≡ script (rendering_behind defined options reading) source s p
