-- What Python gets, and why it gets nothing.
use Rattle.std.specs.Prelude.{◌≡◌, ℕ, List, false, IsUtf8}
use Rattle.tocmark_json.specs.Marshal.{fits}
use Rattle.tocmark_documents.specs.MarshalReading.{reading_bytes}
use Rattle.tocmark_c.specs.Calls.{flags_of}
use Rattle.tocmark_c.specs.declared.cause.Cause.{Cause}
use Rattle.tocmark_c.specs.declared.cause.Cause.TheVariants as cause

-- these are the bytes for Python of what is read in a text under these flags
abbrev pub IsMarshalOf : ℕ → List ℕ → List ℕ → Type 0
IsMarshalOf bits text output = output ≡ reading_bytes (flags_of bits) text

-- why a text is not read for Python
abbrev pub IsMarshalCause : ℕ → List ℕ → Cause → Type 0
IsMarshalCause bits text cause.OutOfMemory = Unit {0}
IsMarshalCause bits text cause.NotUtf8 = ¬ (IsUtf8 text)
IsMarshalCause bits text cause.TooLong = fits (reading_bytes (flags_of bits) text) ≡ false
IsMarshalCause bits text c = ⊥
