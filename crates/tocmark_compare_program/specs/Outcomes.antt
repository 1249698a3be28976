-- When a call ends with status 0, 1 or 2.
use Rattle.std.specs.Prelude.{ℕ, Bool, true, false}
use Rattle.tocmark_compare_program.specs.declared.outcome.Outcome.{Outcome}
use Rattle.tocmark_compare_program.specs.declared.outcome.Outcome.TheVariants.{Same, Differs, Failed}

-- a file could not be read
abbrev pub has_failed : Outcome → Bool
has_failed Same = false
has_failed Differs = false
has_failed Failed = true

-- two texts say something else
abbrev pub differs : Outcome → Bool
differs Same = false
differs Differs = true
differs Failed = false

-- the status of a call, from whether Git calls, whether a file could not be read and whether two texts differ
abbrev pub status : Bool → Bool → Bool → ℕ
status git true different = 2
status git false false = 0
status true false true = 0
status false false true = 1
