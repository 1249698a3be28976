-- What packed events are written as, and what causes each error.
use Rattle.std.specs.Prelude.{◌≡◌, ℕ, List, false, IsUtf8, Err, None, Some}
use Rattle.serde_json.specs.Data.{Data}
use Rattle.serde_json.specs.Read.{read}
use Rattle.tocmark_event.specs.Options.{OptionsView}
use Rattle.tocmark_event.specs.Validation.{OptionsFault, validation}
use Rattle.tocmark_event.specs.declared.options.Error.{Error}
use Rattle.tocmark_event.specs.declared.options.Error.TheVariants as error
use Rattle.tocmark_state.specs.Ranges.{Pair}
use Rattle.tocmark_documents.specs.Interchange.{AreOptions, in_source, writing}
use Rattle.tocmark_documents.specs.Options.{is_options_object}
use Rattle.tocmark_documents.specs.Packed.{packed_pairs}
use Rattle.tocmark_documents.specs.PackedWriting.{IsWrittenPacked}
use Rattle.tocmark_documents.specs.Unpacked.{IsNotPacked}
use Rattle.tocmark_documents.specs.declared.packed.PackedError.TheVariants as packed_error
use Rattle.tocmark_c.specs.Calls.{flags_of, has_source}
use Rattle.tocmark_c.specs.declared.cause.Cause.{Cause}
use Rattle.tocmark_c.specs.declared.cause.Cause.TheVariants as cause

-- a text is what packed events are written as, under these options, over this source, if there is one
abbrev pub IsPackedMarkdown : ℕ → List ℕ → List ℕ → List ℕ → List ℕ → Type 0
IsPackedMarkdown bits source options packed output = (o : OptionsView) × AreOptions options o × (validation o (flags_of bits) ≡ None) × IsWrittenPacked o (flags_of bits) (has_source source) source packed output

-- packed events come to this error, under these options, over this source, if there is one
abbrev pub IsPackedRefusedAs : Error → ℕ → List ℕ → List ℕ → List ℕ → Type 0
IsPackedRefusedAs e bits source options packed = (o : OptionsView) × AreOptions options o × (pairs : List Pair) × (packed ≡ packed_pairs pairs) × ((writing o (flags_of bits) source (in_source (has_source source) pairs)).outcome ≡ Err e)

-- why packed events are not written
abbrev pub IsPackedWriteCause : ℕ → List ℕ → List ℕ → List ℕ → Cause → Type 0
IsPackedWriteCause bits source options packed cause.OutOfMemory = Unit {0}
IsPackedWriteCause bits source options packed cause.NotUtf8 = ⊥
IsPackedWriteCause bits source options packed cause.SourceNotUtf8 = ¬ (IsUtf8 source)
IsPackedWriteCause bits source options packed cause.OptionsNotUtf8 = ¬ (IsUtf8 options)
IsPackedWriteCause bits source options packed cause.NotJson = ⊥
IsPackedWriteCause bits source options packed cause.NotEvents = (number : ℕ) × IsNotPacked packed (packed_error.Event number)
IsPackedWriteCause bits source options packed cause.OptionsNotJson = read options ≡ None
IsPackedWriteCause bits source options packed cause.NotOptions = (value : Data) × (read options ≡ Some value) × (is_options_object value ≡ false)
IsPackedWriteCause bits source options packed cause.InvalidOptions = (o : OptionsView) × AreOptions options o × (fault : OptionsFault) × (validation o (flags_of bits) ≡ Some fault)
IsPackedWriteCause bits source options packed cause.UnexpectedEvent = IsPackedRefusedAs error.UnexpectedEvent bits source options packed
IsPackedWriteCause bits source options packed cause.Unrepresentable = IsPackedRefusedAs error.Unrepresentable bits source options packed
IsPackedWriteCause bits source options packed cause.InvalidSourceRange = IsPackedRefusedAs error.InvalidSourceRange bits source options packed
IsPackedWriteCause bits source options packed cause.Finished = IsPackedRefusedAs error.Finished bits source options packed
IsPackedWriteCause bits source options packed cause.Failed = IsPackedRefusedAs error.Failed bits source options packed
IsPackedWriteCause bits source options packed cause.InvalidStyle = ⊥
IsPackedWriteCause bits source options packed cause.Changed = ⊥
IsPackedWriteCause bits source options packed cause.TooLong = ⊥
IsPackedWriteCause bits source options packed cause.NotDefinitions = ⊥
IsPackedWriteCause bits source options packed cause.NoDefinition = ⊥
