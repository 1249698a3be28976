-- Which text has other definitions of links, and nothing else.
use Rattle.std.specs.Prelude.{◌≡◌, ◌≤◌, ◌⊎◌, ℕ, List, [], ◌∷◌, ◌++◌, All, Contains, Some, String, drop, fold, length, map, slice_get, slice_range, slice_set, string_bytes}
use Rattle.std.specs.Global.{Global}
use Rattle.tocmark_event.specs.declared.event.flags.ParserOptions.{ParserOptions}
use Rattle.tocmark_reader.specs.Definitions.{SaidDefinition}
use Rattle.tocmark_redefine.specs.Followed.{IsFollowed, definitions_under}
use Rattle.tocmark_rewrite.specs.declared.patch.Patch.{Patch}
use Rattle.tocmark_redefine.specs.declared.redefining.Redefinitions.{Redefinitions}

-- texts in which each change replaces the one with its number
abbrev pub replaced : List (ℕ × String Global) → List (List ℕ) → List (List ℕ)
replaced changes texts = fold (λ ts c. slice_set ts c.0 (string_bytes c.1)) texts changes

-- the definitions of a new text are the old ones, but for the destinations and titles that are replaced
pub record AreRedefined (changes : Redefinitions) (olds news : List SaidDefinition) : Type 0 where
  pub labels : map (λ d. d.label) news ≡ map (λ d. d.label) olds
  pub destinations : map (λ d. d.destination) news ≡ replaced changes.destinations.items (map (λ d. d.destination) olds)
  pub titles : map (λ d. d.title) news ≡ replaced changes.titles.items (map (λ d. d.title) olds)

-- a patch is within the destination and the title of the definition with this number
abbrev pub IsIn : List SaidDefinition → ℕ → Patch → Type 0
IsIn definitions number patch =
    (d : SaidDefinition) × (slice_get definitions number ≡ Some d)
    × (d.place.destination.0 ≤ patch.from) × (patch.from ≤ patch.to) × (patch.to ≤ d.place.title.1)

-- a patch is in a definition that one of these changes names
abbrev pub IsOfOne : List SaidDefinition → List (ℕ × String Global) → Patch → Type 0
IsOfOne definitions changes patch = (change : ℕ × String Global) × Contains changes change × IsIn definitions change.0 patch

-- a patch is in a definition whose destination or title is replaced
abbrev pub IsAsked : List SaidDefinition → Redefinitions → Patch → Type 0
IsAsked definitions changes patch = IsOfOne definitions changes.destinations.items patch ⊎ IsOfOne definitions changes.titles.items patch

-- patches lie one after the other, from one byte on up to another one
abbrev pub AreApart : ℕ → ℕ → List Patch → Type 0
AreApart from to [] = from ≤ to
AreApart from to (patch ∷ patches) = (from ≤ patch.from) × AreApart patch.to to patches

-- a text from a byte on, with patches in it
abbrev pub patched_from : List ℕ → ℕ → List Patch → List ℕ
patched_from text at [] = drop at text
patched_from text at (patch ∷ patches) =
    slice_range text at patch.from ++ (string_bytes patch.text ++ patched_from text patch.to patches)

-- a text is another one in which bytes are replaced in the definitions that changes name
pub record DiffersAtDefinitions (changes : Redefinitions) (olds : List SaidDefinition) (old new : List ℕ) : Type 0 where
  pub patches : List Patch
  pub are_asked : All (IsAsked olds changes) patches
  pub are_apart : AreApart 0 (length old) patches
  pub is_patched : new ≡ patched_from old 0 patches

-- a text has other definitions: its links say what these do, and all else is as it was
pub record IsRedefined (flags : ParserOptions) (changes : Redefinitions) (old new : List ℕ) : Type 0 where
  pub definitions : AreRedefined changes (definitions_under flags old) (definitions_under flags new)
  pub events : IsFollowed flags old new
  pub bytes : DiffersAtDefinitions changes (definitions_under flags old) old new
