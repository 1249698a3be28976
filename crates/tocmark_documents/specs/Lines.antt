-- JSON by lines.
use Rattle.std.specs.Prelude.{◌≡◌, ◌==◌, ℕ, List, [], ◌∷◌, ◌++◌, Bool, true, false, Option, Some, None, is_some, length, map, option_and_then}
use Rattle.std.specs.Io.KnownBytes.{Appends}
use Rattle.std.specs.Str.Lines.{lines}
use Rattle.serde_json.specs.Data.{Data}
use Rattle.serde_json.specs.Find.{as_array}
use Rattle.serde_json.specs.Read.{read}
use Rattle.tocmark_event.specs.Options.{OptionsView}
use Rattle.tocmark_event.specs.View.{EventView}
use Rattle.tocmark_event.specs.declared.event.flags.ParserOptions.{ParserOptions}
use Rattle.tocmark_documents.specs.Interchange.{IsRefusedAt, IsWritten, in_source, located_in}
use Rattle.tocmark_documents.specs.declared.fault.WriteError.{WriteError}
use Rattle.tocmark_documents.specs.declared.fault.WriteError.TheVariants as write_error
use Rattle.tocmark_json.specs.Elements.{IsElement, RefusesElement}
use Rattle.tocmark_json.specs.Positions.{IsIndex}
use Rattle.tocmark_json.specs.Printed.{lines_text, located_lines}
use Rattle.tocmark_json.specs.declared.fault.Fault.TheVariants as fault
use Rattle.tocmark_json.specs.declared.fault.JsonError.{JsonError}
use Rattle.tocmark_json.specs.declared.fault.JsonError.TheVariants as error
use Rattle.tocmark_json.specs.declared.positions.Positions.{Positions}
use Rattle.tocmark_marked.specs.Marked.{marked_reading}
use Rattle.tocmark_state.specs.Ranges.{Pair, Range}

-- a comma is before each byte after a line feed
abbrev pub with_commas : Bool → List ℕ → List ℕ
with_commas is_behind [] = []
with_commas true (b ∷ bs) = 44 ∷ b ∷ with_commas (b == 10) bs
with_commas false (b ∷ bs) = b ∷ with_commas (b == 10) bs

-- the JSON text of an array whose items are on lines of their own
abbrev pub array_of : List ℕ → List ℕ
array_of lines = 91 ∷ (with_commas false lines ++ 93 ∷ [])

-- the JSON text that an input stands for
abbrev pub json_of : Bool → List ℕ → List ℕ
json_of true input = array_of input
json_of false input = input

-- ---- read

-- the lines of JSON of what is read in a text under these flags
abbrev pub reading_lines : ParserOptions → List ℕ → List ℕ
reading_lines flags text = lines_text (map (λ e. (e.0, Some e.1)) (marked_reading flags text).events)

-- the same with the details of ranges
abbrev pub reading_located_lines : ParserOptions → List ℕ → List ℕ
reading_located_lines flags text = located_lines (map (located_in text) (marked_reading flags text).events)

-- the lines of some events, with the details of ranges if the text's places are known
abbrev pub lines_with : Option Positions → List (EventView × Range) → List ℕ
lines_with None events = lines_text (map (λ e. (e.0, Some e.1)) events)
lines_with (Some positions) events = located_lines (map (located_in positions.bytes.now) events)

-- the text's places, if they are known, are right
abbrev pub AreRight : Option Positions → Type 0
AreRight None = Unit {0}
AreRight (Some positions) = IsIndex positions

-- known bytes grow by the front of a text, and the rest of it is left
abbrev pub AppendsUpTo : Option (List ℕ) → Option (List ℕ) → List ℕ → List ℕ → Type 0
AppendsUpTo old new text rest = (front : List ℕ) × (text ≡ front ++ rest) × Appends old new front

-- known bytes grow by a front of a text
abbrev pub AppendsFront : Option (List ℕ) → Option (List ℕ) → List ℕ → Type 0
AppendsFront old new text = (rest : List ℕ) × AppendsUpTo old new text rest

-- ---- written

-- a line is the JSON of an event with its range, if it has one, or of an event alone
abbrev pub IsLineOf : Bool → List ℕ → Pair → Type 0
IsLineOf has_ranges line pair = (value : Data) × (read line ≡ Some value) × IsElement has_ranges value pair

-- each line is that of the event in its place
abbrev pub AreLinesOf : Bool → List (List ℕ) → List Pair → Type 0
AreLinesOf has_ranges [] [] = Unit {0}
AreLinesOf has_ranges [] (pair ∷ pairs) = ⊥
AreLinesOf has_ranges (line ∷ more) [] = ⊥
AreLinesOf has_ranges (line ∷ more) (pair ∷ pairs) = IsLineOf has_ranges line pair × AreLinesOf has_ranges more pairs

-- the first of some lines is an array
abbrev pub begin_with_array : List (List ℕ) → Bool
begin_with_array [] = false
begin_with_array (line ∷ more) = is_some (option_and_then as_array (read line))

-- the first line decides what each line has to be: if it is an array, an event with its range, else an event alone
abbrev pub have_ranges : List ℕ → Bool
have_ranges input = begin_with_array (lines input)

-- the events that a text has by lines, written over the source, if there is one, are this text
pub record IsWrittenFromLines (options : OptionsView) (flags : ParserOptions) (has_source : Bool) (source input output : List ℕ) : Type 0 where
  pub pairs : List Pair
  pub are_lines : AreLinesOf (have_ranges input) (lines input) pairs
  pub is_written : IsWritten options flags source (in_source has_source pairs) output

-- the error names the element of this number, whose value is that of no event
abbrev pub IsNoValueAt : Bool → Data → ℕ → JsonError → Type 0
IsNoValueAt has_ranges value number error.NotAnArray = ⊥
IsNoValueAt has_ranges value number (error.Event at key wanted) = (at ≡ number) × RefusesElement has_ranges value (fault.Wanted key wanted)

-- why a line of this number is that of no event
abbrev pub IsNoLine : Bool → List ℕ → ℕ → WriteError → Type 0
IsNoLine has_ranges line number (write_error.NotJson e) = read line ≡ None
IsNoLine has_ranges line number (write_error.NotEvents e) = (value : Data) × (read line ≡ Some value) × IsNoValueAt has_ranges value number e
IsNoLine has_ranges line number (write_error.Refused p e) = ⊥
IsNoLine has_ranges line number write_error.OutOfMemory = Unit {0}

-- a line is not what the first line decides, and those before it are
pub record IsFirstBadLine (input : List ℕ) (e : WriteError) : Type 0 where
  pub before : List (List ℕ)
  pub line : List ℕ
  pub after : List (List ℕ)
  pub pairs : List Pair
  pub split : lines input ≡ before ++ line ∷ after
  pub are_lines : AreLinesOf (have_ranges input) before pairs
  pub is_bad : IsNoLine (have_ranges input) line (length before) e

-- a line is that of no event, or memory ran out
abbrev pub IsBadLine : List ℕ → WriteError → Type 0
IsBadLine input write_error.OutOfMemory = Unit {0}
IsBadLine input e = IsFirstBadLine input e

-- why the events that a text has by lines are not written: a line is that of none, the writer refuses them, or memory ran out
abbrev pub IsLinesCause : OptionsView → ParserOptions → Bool → List ℕ → List ℕ → WriteError → Type 0
IsLinesCause options flags has_source source input (write_error.Refused p e) =
    (pairs : List Pair) × AreLinesOf (have_ranges input) (lines input) pairs × IsRefusedAt options flags source (in_source has_source pairs) p e
IsLinesCause options flags has_source source input e = IsBadLine input e
