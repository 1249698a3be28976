-- What each call writes, and what causes each error.
use Rattle.std.specs.Prelude.{◌≡◌, ◌==◌, ℕ, List, Bool, false, not, length, map, true, IsUtf8, Err, None, Some}
use Rattle.serde_json.specs.Data.{Data}
use Rattle.serde_json.specs.Read.{read}
use Rattle.serde_json.specs.Written.{compact_text}
use Rattle.tocmark_event.specs.Options.{OptionsView}
use Rattle.tocmark_event.specs.Validation.{OptionsFault, validation}
use Rattle.tocmark_event.specs.declared.event.flags.ParserOptions.{ParserOptions}
use Rattle.tocmark_event.specs.declared.options.Error.{Error}
use Rattle.tocmark_event.specs.declared.options.Error.TheVariants as error
use Rattle.tocmark_json.specs.Elements.{IsNoList}
use Rattle.tocmark_json.specs.declared.fault.JsonError.{JsonError}
use Rattle.tocmark_state.specs.Ranges.{Pair}
use Rattle.tocmark_documents.specs.Document.{IsChange, IsWrittenTheSame}
use Rattle.tocmark_documents.specs.Options.{is_options_object}
use Rattle.tocmark_documents.specs.Interchange.{AreOptions, IsTextOf, IsWrittenFrom, in_source, reading_json, writing}
use Rattle.tocmark_reader.specs.Reading.{reading_of}
use Rattle.tocmark_reader.specs.Flags.{syntax_of}
use Rattle.tocmark_read_scan.specs.declared.syntax.Names.TheVariants.{All}
use Rattle.tocmark_event.specs.Reading.{ReadingView}
use Rattle.tocmark_judge.specs.Letters.{letters}
use Rattle.tocmark_judge.specs.LinkDefinitions.{DefinedLink, unplaced}
use Rattle.tocmark_judge.specs.Marks.{after_mark, has_mark}
use Rattle.tocmark_judge.specs.Same.{SaySame}
use Rattle.tocmark_judge.specs.Shape.{HaveSameShapes}
use Rattle.tocmark_print.specs.Fills.{fills}
use Rattle.tocmark_reader.specs.Definitions.{definitions_of}
use Rattle.tocmark_c.specs.Style.{has_style, wrap_of}
use Rattle.tocmark_c.specs.declared.style.TocmarkStyle.{TocmarkStyle}
use Rattle.tocmark_c.specs.declared.cause.Cause.{Cause}
use Rattle.tocmark_c.specs.declared.cause.Cause.TheVariants as cause

-- the flags of these bits
abbrev pub flags_of : ℕ → ParserOptions
flags_of bits = record { 0 = bits }

-- a text is the JSON of what is read in a text under these flags
abbrev pub IsReadFrom : ℕ → List ℕ → List ℕ → Type 0
IsReadFrom bits text output = output ≡ compact_text (reading_json (flags_of bits) text)

-- why a text is not read
abbrev pub IsReadCause : List ℕ → Cause → Type 0
IsReadCause text cause.OutOfMemory = Unit {0}
IsReadCause text cause.NotUtf8 = ¬ (IsUtf8 text)
IsReadCause text c = ⊥

-- what the reader finds in a text under these flags
abbrev pub read_under : ℕ → List ℕ → ReadingView
read_under bits text = reading_of (syntax_of All (flags_of bits)) text

-- the definitions of links that it finds: labels, destinations and titles
abbrev pub defined_under : ℕ → List ℕ → List DefinedLink
defined_under bits text = map unplaced (definitions_of (syntax_of All (flags_of bits)) text)

-- both texts say the same under a style, and have the same definitions of links and the same letters; a byte order mark at
-- the front is no text, and both have one or neither
abbrev pub IsSameDocument : ℕ → TocmarkStyle → List ℕ → List ℕ → Type 0
IsSameDocument bits style text output =
    SaySame (fills (wrap_of style.wrap)) (read_under bits (after_mark output)) (read_under bits (after_mark text))
    × (defined_under bits (after_mark output) ≡ defined_under bits (after_mark text))
    × (has_mark output ≡ has_mark text) × (letters output ≡ letters text)

-- both texts have the same blocks under each of these flags
abbrev pub HaveSameBlocks : List ℕ → List ℕ → List ℕ → Type 0
HaveSameBlocks also text output =
    HaveSameShapes (λ t flags. reading_of (syntax_of All flags) t) (map flags_of also) (after_mark output) (after_mark text)

-- both texts say the same under a style, and have the same blocks under further flags
abbrev pub IsSameToAll : ℕ → List ℕ → TocmarkStyle → List ℕ → List ℕ → Type 0
IsSameToAll bits also style text output =
    IsSameDocument bits style text output × HaveSameBlocks also text output

-- why a text is not formatted
abbrev pub IsFormatCause : List ℕ → TocmarkStyle → Cause → Type 0
IsFormatCause text style cause.OutOfMemory = Unit {0}
IsFormatCause text style cause.NotUtf8 = ¬ (IsUtf8 text)
IsFormatCause text style cause.InvalidStyle = has_style style ≡ false
IsFormatCause text style c = ⊥

-- a source is there
abbrev pub has_source : List ℕ → Bool
has_source source = not (length source == 0)

-- a text is what the events of a JSON text are written as, under these options, over this source, if there is one
abbrev pub IsMarkdownOf : ℕ → List ℕ → List ℕ → List ℕ → List ℕ → Type 0
IsMarkdownOf bits source options json output = (o : OptionsView) × AreOptions options o × (validation o (flags_of bits) ≡ None) × IsWrittenFrom o (flags_of bits) (has_source source) source json output

-- the events of a JSON text come to this error, under these options, over this source, if there is one
abbrev pub IsRefusedAs : Error → ℕ → List ℕ → List ℕ → List ℕ → Type 0
IsRefusedAs e bits source options json = (o : OptionsView) × AreOptions options o × (pairs : List Pair) × IsTextOf json pairs × ((writing o (flags_of bits) source (in_source (has_source source) pairs)).outcome ≡ Err e)

-- why events are not written
abbrev pub IsWriteCause : ℕ → List ℕ → List ℕ → List ℕ → Cause → Type 0
IsWriteCause bits source options json cause.OutOfMemory = Unit {0}
IsWriteCause bits source options json cause.NotUtf8 = ¬ (IsUtf8 json)
IsWriteCause bits source options json cause.SourceNotUtf8 = ¬ (IsUtf8 source)
IsWriteCause bits source options json cause.OptionsNotUtf8 = ¬ (IsUtf8 options)
IsWriteCause bits source options json cause.NotJson = read json ≡ None
IsWriteCause bits source options json cause.NotEvents = (value : Data) × (read json ≡ Some value) × (e : JsonError) × IsNoList value e
IsWriteCause bits source options json cause.OptionsNotJson = read options ≡ None
IsWriteCause bits source options json cause.NotOptions = (value : Data) × (read options ≡ Some value) × (is_options_object value ≡ false)
IsWriteCause bits source options json cause.InvalidOptions = (o : OptionsView) × AreOptions options o × (fault : OptionsFault) × (validation o (flags_of bits) ≡ Some fault)
IsWriteCause bits source options json cause.UnexpectedEvent = IsRefusedAs error.UnexpectedEvent bits source options json
IsWriteCause bits source options json cause.Unrepresentable = IsRefusedAs error.Unrepresentable bits source options json
IsWriteCause bits source options json cause.InvalidSourceRange = IsRefusedAs error.InvalidSourceRange bits source options json
IsWriteCause bits source options json cause.Finished = IsRefusedAs error.Finished bits source options json
IsWriteCause bits source options json cause.Failed = IsRefusedAs error.Failed bits source options json
IsWriteCause bits source options json cause.InvalidStyle = ⊥
IsWriteCause bits source options json cause.Changed = ⊥
IsWriteCause bits source options json cause.TooLong = ⊥
IsWriteCause bits source options json cause.NotDefinitions = ⊥
IsWriteCause bits source options json cause.NoDefinition = ⊥

-- a text is what the events of a JSON text are written as, and just these events are found in it
abbrev pub IsSameMarkdownOf : ℕ → List ℕ → List ℕ → List ℕ → List ℕ → Type 0
IsSameMarkdownOf bits source options json output = (o : OptionsView) × AreOptions options o × (validation o (flags_of bits) ≡ None) × IsWrittenTheSame o (flags_of bits) (has_source source) source json output

-- the events of a JSON text would be written as a text in which others are found
abbrev pub IsChangedAs : ℕ → List ℕ → List ℕ → List ℕ → Type 0
IsChangedAs bits source options json = (o : OptionsView) × AreOptions options o × (place : ℕ) × IsChange o (flags_of bits) (has_source source) source json place

-- why events are not written as a document that says the same
abbrev pub IsDocumentCauseOf : ℕ → List ℕ → List ℕ → List ℕ → Cause → Type 0
IsDocumentCauseOf bits source options json cause.Changed = IsChangedAs bits source options json
IsDocumentCauseOf bits source options json c = IsWriteCause bits source options json c

-- what a call writes, whether the document is read again or not
abbrev pub IsAsked : Bool → ℕ → List ℕ → List ℕ → List ℕ → List ℕ → Type 0
IsAsked true bits source options json output = IsSameMarkdownOf bits source options json output
IsAsked false bits source options json output = IsMarkdownOf bits source options json output

-- and why it writes nothing
abbrev pub IsAskedCause : Bool → ℕ → List ℕ → List ℕ → List ℕ → Cause → Type 0
IsAskedCause true bits source options json c = IsDocumentCauseOf bits source options json c
IsAskedCause false bits source options json c = IsWriteCause bits source options json c
