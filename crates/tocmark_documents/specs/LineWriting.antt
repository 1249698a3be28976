-- What a state has taken of events that come by lines.
use Rattle.std.specs.Prelude.{◌≡◌, ℕ, List, Bool}
use Rattle.std.specs.List.{concat}
use Rattle.std.specs.Str.Lines.{lines}
use Rattle.tocmark_event.specs.Options.{OptionsView}
use Rattle.tocmark_event.specs.declared.event.flags.ParserOptions.{ParserOptions}
use Rattle.tocmark_documents.specs.Interchange.{in_source}
use Rattle.tocmark_documents.specs.Lines.{AreLinesOf, IsBadLine, have_ranges}
use Rattle.tocmark_documents.specs.declared.line_writing.Stop.{Stop}
use Rattle.tocmark_documents.specs.declared.line_writing.Stop.TheVariants as stop
use Rattle.tocmark_read_scan.specs.declared.syntax.Names.TheVariants.{All}
use Rattle.tocmark_reader.specs.Flags.{unit_syntax_of}
use Rattle.tocmark_reader.specs.Reading.{reading_of}
use Rattle.tocmark_reader.specs.declared.unit_reader.UnitReader.{UnitReader}
use Rattle.tocmark_state.specs.Ranges.{Pair}
use Rattle.tocmark_state.specs.StateView.{Stands, rendering_of}
use Rattle.tocmark_state.specs.Walk.{Rendering, nothing_yet, walk}
use Rattle.tocmark_state.specs.WorkView.{rendering}
use Rattle.tocmark_state.specs.declared.state.State.{State}

-- how units are written under these options, to be read by the reader of units
abbrev pub unit_rendering : OptionsView → Rendering
unit_rendering options = rendering options (λ t f. reading_of (unit_syntax_of All f) t)

-- a state took these pairs over the source, and the output has all that it handed
pub record HasTaken (options : OptionsView) (flags : ParserOptions) (source : List ℕ) (taken : List Pair) (state : State UnitReader) (output : List ℕ) : Type 0 where
  pub stands : Stands (λ r t f. reading_of (unit_syntax_of r.names f) t) flags source state taken
  pub same : rendering_of (λ r t f. reading_of (unit_syntax_of r.names f) t) state ≡ unit_rendering options
  pub handed : output ≡ concat (walk (unit_rendering options) source (nothing_yet flags) taken).texts

-- a state took the events that a text has by lines
pub record HasTakenLines (options : OptionsView) (flags : ParserOptions) (has_source : Bool) (source input : List ℕ) (state : State UnitReader) (output : List ℕ) : Type 0 where
  pub pairs : List Pair
  pub are_lines : AreLinesOf (have_ranges input) (lines input) pairs
  pub has_taken : HasTaken options flags source (in_source has_source pairs) state output

-- why a text by lines isn't written line by line; of events that the writer refuses, nothing is said
abbrev pub IsStop : List ℕ → Stop → Type 0
IsStop input (stop.Wrong e) = IsBadLine input e
IsStop input stop.Refused = Unit {0}
