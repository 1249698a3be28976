-- What redefining links writes, and what causes each error.
use Rattle.std.specs.Prelude.{◌≡◌, ℕ, List, IsUtf8}
use Rattle.tocmark_definitions.specs.Redefining.{IsCause, IsRedefinedBy}
use Rattle.tocmark_definitions.specs.declared.fault.Fault.{Fault}
use Rattle.tocmark_c.specs.Calls.{flags_of}
use Rattle.tocmark_c.specs.Codes.{redefining_cause}
use Rattle.tocmark_c.specs.declared.cause.Cause.{Cause}
use Rattle.tocmark_c.specs.declared.cause.Cause.TheVariants as cause

-- a text is the source with the definitions of links that a JSON text gives
abbrev pub IsRedefinedOf : ℕ → List ℕ → List ℕ → List ℕ → Type 0
IsRedefinedOf bits source json output = IsRedefinedBy (flags_of bits) json source output

-- why a source does not get other definitions
abbrev pub IsRedefineCauseOf : List ℕ → List ℕ → Cause → Type 0
IsRedefineCauseOf source json cause.NotUtf8 = ¬ (IsUtf8 json)
IsRedefineCauseOf source json cause.SourceNotUtf8 = ¬ (IsUtf8 source)
IsRedefineCauseOf source json c = (e : Fault) × (redefining_cause e ≡ c) × IsCause json e
