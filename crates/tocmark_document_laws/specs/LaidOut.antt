-- That what is handed for blocks is their layout.
use Rattle.std.specs.Prelude.{◌≡◌, ℕ, false, List, Ok, true, codes}
use Rattle.std.specs.Char.{char_set_contains}
use Rattle.std.specs.List.{concat}
use Rattle.tocmark_event.specs.Options.{OptionsView}
use Rattle.tocmark_event.specs.Reading.{ReadingView}
use Rattle.tocmark_event.specs.declared.event.flags.ParserOptions.{ParserOptions}
use Rattle.tocmark_laws.specs.Documents.{ArePlainTokens}
use Rattle.tocmark_state.specs.Walk.{Walk, Done, done, nothing_yet, script}
use Rattle.tocmark_state.specs.WorkView.{rendering}
use Rattle.tocmark_document_laws.specs.Blocks.{Blocks, ArePlain, document}
use Rattle.tocmark_document_laws.specs.DocumentLines.{layout}

-- nothing is refused, and the texts that are handed join to this one
pub record JoinTo (walk : Walk Done) (text : List ℕ) : Type 0 where
  pub ends_well : walk.outcome ≡ Ok done
  pub is : concat walk.texts ≡ text

-- what is handed for such blocks is their layout
abbrev pub DocumentsAreLaidOut : Type 0
DocumentsAreLaidOut =
    (options : OptionsView) (reading : List ℕ → ParserOptions → ReadingView) (flags : ParserOptions) (source : List ℕ) (f : Blocks) →
    options.check_plain_blocks ≡ false → ArePlainTokens options → char_set_contains (codes "*-+") options.list_token ≡ true → ArePlain f →
    JoinTo (script (rendering options reading) source (nothing_yet flags) (document f)) (layout options flags f)
