-- What events that Python gives are written as, and what causes each error.
use Rattle.std.specs.Prelude.{◌≡◌, ℕ, List, false, IsUtf8, Err, None, Some}
use Rattle.serde_json.specs.Data.{Data}
use Rattle.serde_json.specs.Read.{read}
use Rattle.tocmark_event.specs.Options.{OptionsView}
use Rattle.tocmark_event.specs.Validation.{OptionsFault, validation}
use Rattle.tocmark_event.specs.declared.options.Error.{Error}
use Rattle.tocmark_event.specs.declared.options.Error.TheVariants as error
use Rattle.tocmark_state.specs.Ranges.{Pair}
use Rattle.tocmark_json.specs.Unmarshal.{IsDumped, IsNoDump}
use Rattle.tocmark_json.specs.declared.fault.JsonError.{JsonError}
use Rattle.tocmark_documents.specs.Interchange.{AreOptions, in_source, writing}
use Rattle.tocmark_documents.specs.Options.{is_options_object}
use Rattle.tocmark_documents.specs.MarshalWriting.{IsWrittenDump}
use Rattle.tocmark_c.specs.Calls.{flags_of, has_source}
use Rattle.tocmark_c.specs.declared.cause.Cause.{Cause}
use Rattle.tocmark_c.specs.declared.cause.Cause.TheVariants as cause

-- a text is what the events of these bytes are written as, under these options, over this source, if there is one
abbrev pub IsDumpMarkdown : ℕ → List ℕ → List ℕ → List ℕ → List ℕ → Type 0
IsDumpMarkdown bits source options bytes output = (o : OptionsView) × AreOptions options o × (validation o (flags_of bits) ≡ None) × IsWrittenDump o (flags_of bits) (has_source source) source bytes output

-- the events of these bytes come to this error, under these options, over this source, if there is one
abbrev pub IsDumpRefusedAs : Error → ℕ → List ℕ → List ℕ → List ℕ → Type 0
IsDumpRefusedAs e bits source options bytes = (o : OptionsView) × AreOptions options o × (pairs : List Pair) × IsDumped bytes pairs × ((writing o (flags_of bits) source (in_source (has_source source) pairs)).outcome ≡ Err e)

-- why the events of these bytes are not written
abbrev pub IsDumpWriteCause : ℕ → List ℕ → List ℕ → List ℕ → Cause → Type 0
IsDumpWriteCause bits source options bytes cause.OutOfMemory = Unit {0}
IsDumpWriteCause bits source options bytes cause.NotUtf8 = ⊥
IsDumpWriteCause bits source options bytes cause.SourceNotUtf8 = ¬ (IsUtf8 source)
IsDumpWriteCause bits source options bytes cause.OptionsNotUtf8 = ¬ (IsUtf8 options)
IsDumpWriteCause bits source options bytes cause.NotJson = ⊥
IsDumpWriteCause bits source options bytes cause.NotEvents = (e : JsonError) × IsNoDump bytes e
IsDumpWriteCause bits source options bytes cause.OptionsNotJson = read options ≡ None
IsDumpWriteCause bits source options bytes cause.NotOptions = (value : Data) × (read options ≡ Some value) × (is_options_object value ≡ false)
IsDumpWriteCause bits source options bytes cause.InvalidOptions = (o : OptionsView) × AreOptions options o × (fault : OptionsFault) × (validation o (flags_of bits) ≡ Some fault)
IsDumpWriteCause bits source options bytes cause.UnexpectedEvent = IsDumpRefusedAs error.UnexpectedEvent bits source options bytes
IsDumpWriteCause bits source options bytes cause.Unrepresentable = IsDumpRefusedAs error.Unrepresentable bits source options bytes
IsDumpWriteCause bits source options bytes cause.InvalidSourceRange = IsDumpRefusedAs error.InvalidSourceRange bits source options bytes
IsDumpWriteCause bits source options bytes cause.Finished = IsDumpRefusedAs error.Finished bits source options bytes
IsDumpWriteCause bits source options bytes cause.Failed = IsDumpRefusedAs error.Failed bits source options bytes
IsDumpWriteCause bits source options bytes cause.InvalidStyle = ⊥
IsDumpWriteCause bits source options bytes cause.Changed = ⊥
IsDumpWriteCause bits source options bytes cause.TooLong = ⊥
IsDumpWriteCause bits source options bytes cause.NotDefinitions = ⊥
IsDumpWriteCause bits source options bytes cause.NoDefinition = ⊥
