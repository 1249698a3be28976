-- Which text has the definitions that a caller gives back.
use Rattle.std.specs.Prelude.{◌≡◌, ℕ, List, All, Contains, Some, String, slice_get, string_bytes}
use Rattle.std.specs.Global.{Global}
use Rattle.tocmark_event.specs.declared.event.flags.ParserOptions.{ParserOptions}
use Rattle.tocmark_reader.specs.Definitions.{SaidDefinition}
use Rattle.tocmark_redefine.specs.Followed.{definitions_under}
use Rattle.tocmark_redefine.specs.Redefined.{IsRedefined}
use Rattle.tocmark_redefine.specs.declared.defining.GivenDefinition.{GivenDefinition}
use Rattle.tocmark_redefine.specs.declared.redefining.Redefinitions.{Redefinitions}

-- a given definition is this one of a text: it has its bytes and its label
pub record Names (given : GivenDefinition) (d : SaidDefinition) : Type 0 where
  pub begins : given.range.0 ≡ d.place.whole.0
  pub ends : given.range.1 ≡ d.place.whole.1
  pub label : string_bytes given.label ≡ d.label

-- it is the definition with this number
abbrev pub IsNamed : List SaidDefinition → GivenDefinition → ℕ → Type 0
IsNamed definitions given number = (d : SaidDefinition) × (slice_get definitions number ≡ Some d) × Names given d

-- a change is of a definition that is given
abbrev pub IsOfGiven : List SaidDefinition → List GivenDefinition → ℕ × String Global → Type 0
IsOfGiven definitions all change = (given : GivenDefinition) × Contains all given × IsNamed definitions given change.0

-- a definition has the destination and the title that are given
pub record Says (given : GivenDefinition) (d : SaidDefinition) : Type 0 where
  pub destination : d.destination ≡ string_bytes given.destination
  pub title : d.title ≡ string_bytes given.title

-- a definition of the old text is given, and the one with its number in the new text says so
pub record IsSaid (olds news : List SaidDefinition) (given : GivenDefinition) : Type 0 where
  pub number : ℕ
  pub new : SaidDefinition
  pub is_named : IsNamed olds given number
  pub is_there : slice_get news number ≡ Some new
  pub says : Says given new

-- a text has the definitions that are given, and else it is as it was
pub record IsDefined (flags : ParserOptions) (all : List GivenDefinition) (old new : List ℕ) : Type 0 where
  pub changes : Redefinitions
  pub is_redefined : IsRedefined flags changes old new
  pub destinations : All (IsOfGiven (definitions_under flags old) all) changes.destinations.items
  pub titles : All (IsOfGiven (definitions_under flags old) all) changes.titles.items
  pub are_said : All (IsSaid (definitions_under flags old) (definitions_under flags new)) all
