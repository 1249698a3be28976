-- What packed events are written as, and why they are not.
use Rattle.std.specs.Prelude.{◌≡◌, ℕ, List, Bool}
use Rattle.tocmark_event.specs.Options.{OptionsView}
use Rattle.tocmark_event.specs.declared.event.flags.ParserOptions.{ParserOptions}
use Rattle.tocmark_state.specs.Ranges.{Pair}
use Rattle.tocmark_documents.specs.Interchange.{IsRefusedAt, IsWritten, in_source}
use Rattle.tocmark_documents.specs.Packed.{packed_pairs}
use Rattle.tocmark_documents.specs.Unpacked.{IsNotPacked}
use Rattle.tocmark_documents.specs.declared.packed.PackedError.TheVariants as packed_error
use Rattle.tocmark_documents.specs.declared.packed_writing.PackedWriteError.{PackedWriteError}
use Rattle.tocmark_documents.specs.declared.packed_writing.PackedWriteError.TheVariants as error

-- the events of these bytes, written over the source, if there is one, are this text
abbrev pub IsWrittenPacked : OptionsView → ParserOptions → Bool → List ℕ → List ℕ → List ℕ → Type 0
IsWrittenPacked options flags has_source source packed output =
    (pairs : List Pair) × (packed ≡ packed_pairs pairs) × IsWritten options flags source (in_source has_source pairs) output

-- why the events of these bytes are not written
abbrev pub IsPackedCause : OptionsView → ParserOptions → Bool → List ℕ → List ℕ → PackedWriteError → Type 0
IsPackedCause options flags has_source source packed (error.NotPacked number) = IsNotPacked packed (packed_error.Event number)
IsPackedCause options flags has_source source packed (error.Refused p e) =
    (pairs : List Pair) × (packed ≡ packed_pairs pairs) × IsRefusedAt options flags source (in_source has_source pairs) p e
IsPackedCause options flags has_source source packed error.OutOfMemory = Unit {0}
