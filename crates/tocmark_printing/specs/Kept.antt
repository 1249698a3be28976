-- Which texts are printed with no tree that keeps its lines.
use Rattle.std.specs.Prelude.{ℕ, Bool, IsFalse, true, false, List}
use Rattle.std.specs.List.{list_any}
use Rattle.tocmark_printing.specs.declared.ladder.Ladder.{Ladder}
use Rattle.tocmark_printing.specs.declared.ladder.Step.{Step}
use Rattle.tocmark_printing.specs.declared.ladder.Step.TheVariants.{Styled, Spelled, Lines, Attached}

-- a tree is printed by its lines of the source
abbrev pub keeps_lines : Step → Bool
keeps_lines Styled = false
keeps_lines Spelled = false
keeps_lines Lines = true
keeps_lines Attached = true

-- whether some tree keeps its lines
abbrev pub keeps_some : Ladder → Bool
keeps_some ladder = list_any keeps_lines ladder.steps.items

-- a printer may print a text so, and no tree keeps its lines
pub record IsPrinted (prints : List ℕ → Ladder → List ℕ → Type 0) (old new : List ℕ) : Type 0 where
  pub ladder : Ladder
  pub keeps_none : IsFalse (keeps_some ladder)
  pub printed : prints old ladder new
