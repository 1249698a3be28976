-- When a call ends with status 0, and when with status 1.
use Rattle.std.specs.Prelude.{ℕ, Bool, true, false}
use Rattle.tocmark_links_program.specs.declared.outcome.Outcome.{Outcome}
use Rattle.tocmark_links_program.specs.declared.outcome.Outcome.TheVariants.{Right, Broken, Failed, Stale}

-- a link of the file leads nowhere, the file could not be read, or its table of contents would change
abbrev pub is_reason : Outcome → Bool
is_reason Right = false
is_reason Broken = true
is_reason Failed = true
is_reason Stale = true

-- the status of a call, from whether there is a reason for 1
abbrev pub status : Bool → ℕ
status true = 1
status false = 0
