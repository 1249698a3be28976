-- What is read and written, and why a text is refused.
use Rattle.std.specs.Prelude.{◌≡◌, ◌⊎◌, ℕ, List, [], Bool, true, false, map, Ok, Err, Option, None, Some, string_bytes}
use Rattle.std.specs.Borrow.{Bor}
use Rattle.std.specs.List.{concat}
use Rattle.std.specs.Slice.Iter.{iter_rest}
use Rattle.serde_json.specs.Data.{Data}
use Rattle.serde_json.specs.Read.{read}
use Rattle.serde_json.specs.Written.{compact_text}
use Rattle.tocmark_reader.specs.Reading.{reading_of}
use Rattle.tocmark_reader.specs.Flags.{unit_syntax_of}
use Rattle.tocmark_read_scan.specs.declared.syntax.Names.TheVariants.{All}
use Rattle.tocmark_event.specs.Options.{OptionsView, default_options}
use Rattle.tocmark_event.specs.Text.{text_of}
use Rattle.tocmark_event.specs.Validation.{fault_of, validation}
use Rattle.tocmark_event.specs.View.{EventView}
use Rattle.tocmark_event.specs.declared.event.flags.ParserOptions.{ParserOptions}
use Rattle.tocmark_event.specs.declared.options.Error.{Error}
use Rattle.tocmark_event.specs.declared.options.Error.TheVariants as error
use Rattle.tocmark_json.specs.Elements.{IsNoList}
use Rattle.tocmark_json.specs.Destinations.{details_of}
use Rattle.tocmark_json.specs.Json.{IsPairsJson, events_json, listed, located_json, pair_view, pairs_json}
use Rattle.tocmark_documents.specs.Options.{IsOptionFault, IsOptionsJson, fault_line, is_options_object}
use Rattle.tocmark_json.specs.declared.positions.Details.{Details}
use Rattle.tocmark_marked.specs.Marked.{marked_reading}
use Rattle.tocmark_rewrite.specs.declared.fault.Place.{Place}
use Rattle.tocmark_documents.specs.Places.{IsPlaceIn}
use Rattle.tocmark_state.specs.Ranges.{Pair, Range, unranged}
use Rattle.tocmark_state.specs.WorkView.{rendering}
use Rattle.tocmark_state.specs.Walk.{Walk, Done, done, nothing_yet, script}
use Rattle.tocmark_documents.specs.declared.fault.OptionFault.{OptionFault}
use Rattle.tocmark_documents.specs.declared.fault.OptionsTextError.{OptionsTextError}
use Rattle.tocmark_documents.specs.declared.fault.OptionsTextError.TheVariants as options_error
use Rattle.tocmark_documents.specs.declared.fault.WriteError.{WriteError}
use Rattle.tocmark_documents.specs.declared.fault.WriteError.TheVariants as write_error
use Rattle.tocmark_documents.specs.declared.pairs.EventPairs.{EventPairs}

-- without a source no range is kept
abbrev pub kept : Bool → Option (ℕ × ℕ) → Option (ℕ × ℕ)
kept true range = range
kept false range = None

-- events with the ranges that are kept
abbrev pub in_source : Bool → List Pair → List Pair
in_source has_source pairs = map (λ p. (p.0, kept has_source p.1)) pairs

-- the events that are still to come, each with its range, if it has one that is kept
abbrev pub places_left : EventPairs → List Pair
places_left s = in_source s.has_source (map (pair_view text_of) (iter_rest s.pairs))

-- the text of a source that may be missing
abbrev pub source_text : Option (Bor (List ℕ)) → List ℕ
source_text (Some text) = text.now
source_text None = []

-- the JSON of what is read in a text under these flags
abbrev pub reading_json : ParserOptions → List ℕ → Data
reading_json flags text = pairs_json (map (λ e. (e.0, Some e.1)) (marked_reading flags text).events)

-- an event with its range in a text, and the details of that: lines and columns, and the place of a destination
abbrev pub located_in : List ℕ → EventView × Range → Pair × Option Details
located_in text e = ((e.0, Some e.1), Some (details_of text e.0 e.1))

-- the JSON of what is read in a text under these flags, with the details of ranges
abbrev pub reading_located : ParserOptions → List ℕ → Data
reading_located flags text = listed located_json (map (located_in text) (marked_reading flags text).events)

-- what events with ranges come to over a source, under these options and flags: a unit that is read back needs no
-- definitions of footnotes, since these are units of their own
abbrev pub writing : OptionsView → ParserOptions → List ℕ → List Pair → Walk Done
writing options flags source pairs =
    script (rendering options (λ t f. reading_of (unit_syntax_of All f) t)) source (nothing_yet flags) pairs

-- the events, written over the source, are this text
pub record IsWritten (options : OptionsView) (flags : ParserOptions) (source : List ℕ) (pairs : List Pair) (output : List ℕ) : Type 0 where
  pub ends_well : (writing options flags source pairs).outcome ≡ Ok done
  pub joined : output ≡ concat (writing options flags source pairs).texts

-- a value is that of these events, with their ranges or, where none has one, without
abbrev pub IsJsonOf : Data → List Pair → Type 0
IsJsonOf value pairs = IsPairsJson value pairs ⊎ ((es : List EventView) × (value ≡ events_json es) × (pairs ≡ map unranged es))

-- a text is the JSON of these events
pub record IsTextOf (input : List ℕ) (pairs : List Pair) : Type 0 where
  pub value : Data
  pub is_read : read input ≡ Some value
  pub is_json : IsJsonOf value pairs

-- the events that a text has as JSON, written over the source, if there is one, are this text
pub record IsWrittenFrom (options : OptionsView) (flags : ParserOptions) (has_source : Bool) (source input output : List ℕ) : Type 0 where
  pub pairs : List Pair
  pub is_text : IsTextOf input pairs
  pub is_written : IsWritten options flags source (in_source has_source pairs) output

-- the value of events without lines and columns: of events with ranges, or of events alone
abbrev pub IsPlainForm : Data → Data → Type 0
IsPlainForm value form =
    ((pairs : List Pair) × IsPairsJson value pairs × (form ≡ pairs_json pairs))
    ⊎ ((es : List EventView) × (value ≡ events_json es) × (form ≡ events_json es))

-- the text of such a value, without spaces and with each member in order
abbrev pub IsAgain : Data → List ℕ → Type 0
IsAgain value output = (form : Data) × IsPlainForm value form × (output ≡ compact_text form)

-- the JSON of some events, written again without lines and columns
pub record IsWrittenAgain (input output : List ℕ) : Type 0 where
  pub value : Data
  pub is_read : read input ≡ Some value
  pub is_again : IsAgain value output

-- the error is what the events come to; of memory, and of a writer that refuses a text for want of it, nothing is said
abbrev pub IsRefusal : Walk Done → Error → Type 0
IsRefusal walk (error.FormatFailed f) = Unit {0}
IsRefusal walk error.OutOfMemory = Unit {0}
IsRefusal walk e = walk.outcome ≡ Err e

-- the error is what the events come to: neither memory nor the writer that takes the texts
abbrev pub ComesTo : Walk Done → Error → Type 0
ComesTo walk (error.FormatFailed f) = ⊥
ComesTo walk error.OutOfMemory = ⊥
ComesTo walk e = walk.outcome ≡ Err e

-- the events come to this error, and the place is one of theirs
pub record IsRefusedAt (options : OptionsView) (flags : ParserOptions) (source : List ℕ) (pairs : List Pair) (place : Place) (e : Error) : Type 0 where
  pub comes : ComesTo (writing options flags source pairs) e
  pub is_place : IsPlaceIn source pairs place

-- why a text is not the JSON of events
abbrev pub IsNoEvents : List ℕ → WriteError → Type 0
IsNoEvents input (write_error.NotJson e) = read input ≡ None
IsNoEvents input (write_error.NotEvents e) = (value : Data) × (read input ≡ Some value) × IsNoList value e
IsNoEvents input (write_error.Refused p e) = ⊥
IsNoEvents input write_error.OutOfMemory = Unit {0}

-- why events are not written: the writer refuses them, or memory ran out
abbrev pub IsPairsCause : OptionsView → ParserOptions → List ℕ → List Pair → WriteError → Type 0
IsPairsCause options flags source pairs (write_error.NotJson e) = ⊥
IsPairsCause options flags source pairs (write_error.NotEvents e) = ⊥
IsPairsCause options flags source pairs (write_error.Refused p e) = IsRefusedAt options flags source pairs p e
IsPairsCause options flags source pairs write_error.OutOfMemory = Unit {0}

-- why the events that a text has as JSON are not written
abbrev pub IsCause : OptionsView → ParserOptions → Bool → List ℕ → List ℕ → WriteError → Type 0
IsCause options flags has_source source input (write_error.Refused p e) = (pairs : List Pair) × IsTextOf input pairs × IsRefusedAt options flags source (in_source has_source pairs) p e
IsCause options flags has_source source input e = IsNoEvents input e

-- the options that a text has as JSON
abbrev pub HasOptions : List ℕ → OptionsView → Type 0
HasOptions text options = (value : Data) × (read text ≡ Some value) × IsOptionsJson value options

-- the options that a text has as JSON, and the default ones of an empty text
abbrev pub AreOptions : List ℕ → OptionsView → Type 0
AreOptions text options = ((text ≡ []) × (options ≡ default_options)) ⊎ HasOptions text options

-- a line says why a value is not that of options
abbrev pub SaysFault : Data → List ℕ → Type 0
SaysFault value line = (fault : OptionFault) × IsOptionFault value fault × (line ≡ fault_line fault)

-- why a value has no options
abbrev pub IsNoOptions : Data → OptionsTextError → Type 0
IsNoOptions value (options_error.NotJson e) = ⊥
IsNoOptions value (options_error.NotOptions line) = (is_options_object value ≡ false) × SaysFault value (string_bytes line)
IsNoOptions value (options_error.Invalid e) = ⊥
IsNoOptions value options_error.OutOfMemory = Unit {0}

-- why a text has no options
abbrev pub IsNoOptionsText : List ℕ → OptionsTextError → Type 0
IsNoOptionsText text (options_error.NotJson e) = read text ≡ None
IsNoOptionsText text (options_error.NotOptions line) = (value : Data) × (read text ≡ Some value) × (is_options_object value ≡ false) × SaysFault value (string_bytes line)
IsNoOptionsText text (options_error.Invalid e) = ⊥
IsNoOptionsText text options_error.OutOfMemory = Unit {0}

-- why a text has no options that the writer takes under these flags
abbrev pub IsOptionsCause : ParserOptions → List ℕ → OptionsTextError → Type 0
IsOptionsCause flags text (options_error.Invalid e) = (options : OptionsView) × AreOptions text options × (validation options flags ≡ Some (fault_of e))
IsOptionsCause flags text e = IsNoOptionsText text e
