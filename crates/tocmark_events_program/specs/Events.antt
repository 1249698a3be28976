-- What the program reads and writes.
use Rattle.std.specs.Prelude.{◌≡◌, ◌⊎◌, ◌&&◌, ℕ, Bool, List, None, Option, Some, false, is_some, true}
use Rattle.std.specs.Io.KnownBytes.{Appends}
use Rattle.serde_json.specs.Written.{compact_text}
use Rattle.tocmark_event.specs.Options.{options_view}
use Rattle.tocmark_event.specs.declared.event.flags.ParserOptions.{ParserOptions}
use Rattle.tocmark_definitions.specs.Redefining.{IsRedefinedBy}
use Rattle.tocmark_documents.specs.Document.{IsWrittenTheSame}
use Rattle.tocmark_documents.specs.Interchange.{IsWrittenAgain, IsWrittenFrom, reading_json, reading_located}
use Rattle.tocmark_documents.specs.Lines.{AppendsFront, IsWrittenFromLines, json_of, reading_lines, reading_located_lines}
use Rattle.tocmark_documents.specs.Rewriting.{IsRewrittenText}
use Rattle.tocmark_outline.specs.Defining.{IsDefinitionsJson}
use Rattle.tocmark_events_program.specs.declared.arguments.Call.{Call}
use Rattle.tocmark_events_program.specs.declared.arguments.Call.TheVariants as call
use Rattle.tocmark_events_program.specs.declared.arguments.Job.{Job}
use Rattle.tocmark_events_program.specs.declared.arguments.Job.TheVariants as job
use Rattle.tocmark_events_program.specs.declared.fault.Fault.{Fault}
use Rattle.tocmark_events_program.specs.declared.fault.Fault.TheVariants as fault

-- whether the lines of a job's input are joined into an array
abbrev pub joins_lines : Job → Bool
joins_lines (job.Read flags positions) = false
joins_lines (job.Define flags) = false
joins_lines job.Check = false
joins_lines (job.Write flags options file is_document lines) = is_document && lines
joins_lines (job.Rewrite flags options file reports lines) = lines
joins_lines (job.Redefine flags file) = false

-- an array of events is read from a text, with lines and columns or without
abbrev pub IsReadAs : ParserOptions → Bool → List ℕ → List ℕ → Type 0
IsReadAs flags false text output = output ≡ compact_text (reading_json flags text)
IsReadAs flags true text output = output ≡ compact_text (reading_located flags text)

-- the lines of events that are read from a text, with lines and columns or without
abbrev pub lines_read : ParserOptions → Bool → List ℕ → List ℕ
lines_read flags false text = reading_lines flags text
lines_read flags true text = reading_located_lines flags text

-- what a job makes of its text, whose lines aren't joined
abbrev pub IsMade : Job → List ℕ → List ℕ → List ℕ → Type 0
IsMade (job.Read flags positions) source text output = IsReadAs flags positions text output
IsMade (job.Define flags) source text output = IsDefinitionsJson flags text output
IsMade job.Check source text output = IsWrittenAgain text output
IsMade (job.Write flags options file true lines) source text output = IsWrittenTheSame (options_view options) flags (is_some file) source text output
IsMade (job.Write flags options file false true) source text output = IsWrittenFromLines (options_view options) flags (is_some file) source text output
IsMade (job.Write flags options file false false) source text output = IsWrittenFrom (options_view options) flags (is_some file) source text output
IsMade (job.Rewrite flags options file reports lines) source text output = IsRewrittenText flags source text output
IsMade (job.Redefine flags file) source text output = IsRedefinedBy flags text source output

-- what a job makes of its input
abbrev pub IsAnswer : Job → List ℕ → List ℕ → List ℕ → Type 0
IsAnswer j source input output = IsMade j source (json_of (joins_lines j) input) output

-- what a call writes for its input
abbrev pub IsOutput : Call → List ℕ → List ℕ → List ℕ → Type 0
IsOutput (call.Stream flags positions) source input output = output ≡ lines_read flags positions input
IsOutput (call.Whole j) source input output = IsAnswer j source input output

-- the output could not be written whole
abbrev pub IsWriteFault : Fault → Type 0
IsWriteFault fault.Read = ⊥
IsWriteFault (fault.Unreadable name e) = ⊥
IsWriteFault (fault.NotOptions e) = ⊥
IsWriteFault fault.NotUtf8 = ⊥
IsWriteFault (fault.NotJson e) = ⊥
IsWriteFault (fault.NotEvents e) = ⊥
IsWriteFault (fault.NoEvent n value wanted) = ⊥
IsWriteFault (fault.Refused e) = ⊥
IsWriteFault (fault.NotRewritten e) = ⊥
IsWriteFault (fault.Contested e label) = ⊥
IsWriteFault (fault.NotRedefined e) = ⊥
IsWriteFault (fault.Changed n) = ⊥
IsWriteFault fault.OutOfMemory = ⊥
IsWriteFault fault.Write = Unit {0}
IsWriteFault (fault.NotReplaced name e) = ⊥

-- the output of a call is after what was there
pub record IsAnswered (c : Call) (source input : List ℕ) (old new : Option (List ℕ)) : Type 0 where
  pub output : List ℕ
  pub is_output : IsOutput c source input output
  pub appended : Appends old new output

-- a front of the output of a call is after what was there
pub record IsAnsweredUpTo (c : Call) (source input : List ℕ) (old new : Option (List ℕ)) : Type 0 where
  pub output : List ℕ
  pub is_output : IsOutput c source input output
  pub appended : AppendsFront old new output

-- nothing was written, or a front of an output for the input, if it is known
abbrev pub WritesLate : {O : Type 0} → (O → Option (List ℕ)) → Call → List ℕ → Option (List ℕ) → O → O → Type 0
WritesLate contents c source (Some input) old new = (new ≡ old) ⊎ IsAnsweredUpTo c source input (contents old) (contents new)
WritesLate contents c source None old new = Unit {0}
