-- What the program is asked, and what it answers.
use Rattle.std.specs.Prelude.{◌≡◌, ◌⊎◌, ℕ, List, [], ◌∷◌, map, if◌then◌else◌, Ok, Some, None, String, codes, bytes_eq, string_bytes, Option, ◌++◌}
use Rattle.std.specs.Global.{Global}
use Rattle.std.specs.Io.KnownBytes.{Appends}
use Rattle.std.specs.List.{concat}
use Rattle.std.specs.Str.{IsUtf8}
use Rattle.tocmark_event.specs.Options.{default_options}
use Rattle.tocmark_event.specs.View.{EventView}
use Rattle.tocmark_reader.specs.Left.{reading_left}
use Rattle.tocmark_reader.specs.Reading.{core_reading}
use Rattle.tocmark_reader.specs.declared.block_reading.BlockReading.{BlockReading}
use Rattle.tocmark_reader.specs.declared.reader.CoreReader.{CoreReader}
use Rattle.tocmark_state.specs.StateView.{Stands, rendering_of}
use Rattle.tocmark_state.specs.declared.state.State.{State}
use Rattle.tocmark_state.specs.Ranges.{Pair, unranged}
use Rattle.tocmark_state.specs.WorkView.{rendering}
use Rattle.tocmark_state.specs.Walk.{Rendering, Walk, Done, done, nothing_yet, script, walk}
use Rattle.tocmark_program.specs.declared.arguments.Spelling.{Spelling}
use Rattle.tocmark_program.specs.declared.arguments.Spelling.TheVariants.{Escaped, FromSource}
use Rattle.tocmark_program.specs.declared.fault.Fault.{Fault}
use Rattle.tocmark_program.specs.declared.fault.Fault.TheVariants.{Usage, Read, NotUtf8, Markdown, Write}

-- no argument asks for escapes, `--source` alone for the input's spellings; any others are wrong
abbrev pub asked : List (String Global) → Option Spelling
asked [] = Some Escaped
asked (w ∷ []) = if bytes_eq (string_bytes w) (codes "--source") then Some FromSource else None
asked (w ∷ v ∷ ws) = None

-- 2 for wrong arguments, 1 for any other fault
abbrev pub status_of : Fault → ℕ
status_of Usage = 2
status_of Read = 1
status_of NotUtf8 = 1
status_of (Markdown e) = 1
status_of Write = 1

-- the output could not be written whole
abbrev pub IsWriteFault : Fault → Type 0
IsWriteFault Write = Unit {0}
IsWriteFault Usage = ⊥
IsWriteFault Read = ⊥
IsWriteFault NotUtf8 = ⊥
IsWriteFault (Markdown e) = ⊥

-- the events that the core reader finds in a text, with their ranges where the text's spellings are wanted
abbrev pub events_in : Spelling → List ℕ → List Pair
events_in Escaped text = map (λ e. unranged e.0) (core_reading text).events
events_in FromSource text = map (λ e. (e.0, Some e.1)) (core_reading text).events

-- what these events come to over the text, by the default options and without flags
abbrev pub rewriting : Spelling → List ℕ → Walk Done
rewriting spelling text =
    script (rendering default_options (λ t flags. core_reading t)) text (nothing_yet (record { 0 = 0 })) (events_in spelling text)

-- how events are handed to a state: with their ranges where the text's spellings are wanted
abbrev pub as_pairs : Spelling → List (EventView × (ℕ × ℕ)) → List Pair
as_pairs Escaped es = map (λ e. unranged e.0) es
as_pairs FromSource es = map (λ e. (e.0, Some e.1)) es

-- how a text is written: by the default options, to be read by the core reader
abbrev pub plain_rendering : Rendering
plain_rendering = rendering default_options (λ t flags. core_reading t)

-- a state took these pairs, and what it handed is the output
pub record IsWritten (text : List ℕ) (taken : List Pair) (state : State CoreReader) (output : List ℕ) : Type 0 where
  pub stands : Stands (λ r t flags. core_reading t) (record { 0 = 0 }) text state taken
  pub same : rendering_of (λ r t flags. core_reading t) state ≡ plain_rendering
  pub handed : output ≡ concat (walk plain_rendering text (nothing_yet (record { 0 = 0 })) taken).texts

-- it took some pairs, and with those of the blocks that are left they are all
pub record IsWriting (spelling : Spelling) (text : List ℕ) (all : List Pair) (state : State CoreReader) (blocks : BlockReading) (output : List ℕ) : Type 0 where
  pub taken : List Pair
  pub written : IsWritten text taken state output
  pub whole : taken ++ as_pairs spelling (reading_left blocks).events ≡ all

-- the text, read and written back, is this one
pub record IsRewritten (spelling : Spelling) (text output : List ℕ) : Type 0 where
  pub ends_well : (rewriting spelling text).outcome ≡ Ok done
  pub joined : output ≡ concat (rewriting spelling text).texts

-- the input is text, and was read and written back after what the output held
pub record Wrote (spelling : Spelling) (input : List ℕ) (old new : Option (List ℕ)) : Type 0 where
  pub output : List ℕ
  pub is_text : IsUtf8 input
  pub rewritten : IsRewritten spelling input output
  pub appended : Appends old new output

-- the input is text, and what is written back for it is a text
pub record IsRewritable (spelling : Spelling) (input : List ℕ) : Type 0 where
  pub output : List ℕ
  pub is_text : IsUtf8 input
  pub rewritten : IsRewritten spelling input output

-- nothing was written, or the input, if it is known, can be written back
abbrev pub WritesLate : {O : Type 0} → Spelling → Option (List ℕ) → O → O → Type 0
WritesLate spelling (Some input) old new = (new ≡ old) ⊎ IsRewritable spelling input
WritesLate spelling None old new = Unit {0}
