-- What bytes of marshal are written as, and why they are not.
use Rattle.std.specs.Prelude.{◌≡◌, ℕ, List, Bool}
use Rattle.tocmark_event.specs.Options.{OptionsView}
use Rattle.tocmark_event.specs.declared.event.flags.ParserOptions.{ParserOptions}
use Rattle.tocmark_state.specs.Ranges.{Pair}
use Rattle.tocmark_json.specs.Unmarshal.{IsDumped, IsNoDump}
use Rattle.tocmark_documents.specs.Interchange.{IsRefusedAt, IsWritten, in_source}
use Rattle.tocmark_documents.specs.declared.fault.WriteError.{WriteError}
use Rattle.tocmark_documents.specs.declared.fault.WriteError.TheVariants as error

-- the events of these bytes, written over the source, if there is one, are this text
abbrev pub IsWrittenDump : OptionsView → ParserOptions → Bool → List ℕ → List ℕ → List ℕ → Type 0
IsWrittenDump options flags has_source source bytes output =
    (pairs : List Pair) × IsDumped bytes pairs × IsWritten options flags source (in_source has_source pairs) output

-- why the bytes are not read
abbrev pub IsUnread : List ℕ → WriteError → Type 0
IsUnread bytes (error.NotJson e) = ⊥
IsUnread bytes (error.NotEvents e) = IsNoDump bytes e
IsUnread bytes (error.Refused p e) = ⊥
IsUnread bytes error.OutOfMemory = Unit {0}

-- why their events are not written
abbrev pub IsDumpCause : OptionsView → ParserOptions → Bool → List ℕ → List ℕ → WriteError → Type 0
IsDumpCause options flags has_source source bytes (error.Refused p e) =
    (pairs : List Pair) × IsDumped bytes pairs × IsRefusedAt options flags source (in_source has_source pairs) p e
IsDumpCause options flags has_source source bytes e = IsUnread bytes e
