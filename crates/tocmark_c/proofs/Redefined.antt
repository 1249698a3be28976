-- Why a source does not get other definitions, from what the library says.
use Rattle.std.proofs.Common.{◌≡◌, List, ℕ, refl, sym, subst}
use Rattle.tocmark_definitions.specs.Redefining.{IsCause}
use Rattle.tocmark_definitions.specs.declared.fault.Fault.{Fault}
use Rattle.tocmark_definitions.specs.declared.fault.Fault.TheVariants as fault
use Rattle.tocmark_c.specs.Codes.{redefining_cause}
use Rattle.tocmark_c.specs.Redefining.{IsRedefineCauseOf}
use Rattle.tocmark_c.specs.declared.cause.Cause.{Cause}

redefining_by_error : (source json : List ℕ) (e : Fault) → IsCause json e → IsRedefineCauseOf source json (redefining_cause e)
redefining_by_error source json (fault.NotJson x) h = (fault.NotJson x, refl, h)
redefining_by_error source json fault.NotAList h = (fault.NotAList, refl, h)
redefining_by_error source json (fault.Wanted index key wanted) h = (fault.Wanted index key wanted, refl, h)
redefining_by_error source json (fault.NoDefinition index) h = (fault.NoDefinition index, refl, h)
redefining_by_error source json (fault.Misread line) h = (fault.Misread line, refl, h)
redefining_by_error source json fault.OutOfMemory h = (fault.OutOfMemory, refl, h)

-- the same of the cause that is told
pub redefining_told : (source json : List ℕ) (e : Fault) (cause : Cause) → cause ≡ redefining_cause e → IsCause json e → IsRedefineCauseOf source json cause
redefining_told source json e cause is h =
    subst (λ (c : Cause). IsRedefineCauseOf source json c) (sym is) (redefining_by_error source json e h)
