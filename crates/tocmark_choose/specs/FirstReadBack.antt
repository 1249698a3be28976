-- The first of some spellings of a unit that reads back, and that none of them does.
use Rattle.std.specs.Prelude.{◌≡◌, Option, Some, Err, List, ◌∷◌, ◌++◌}
use Rattle.std.specs.List.{AllByRecursion}
use Rattle.tocmark_event.specs.View.{EventView}
use Rattle.tocmark_event.specs.declared.options.Error.TheVariants.{Unrepresentable}
use Rattle.tocmark_spelling.specs.Plan.{Setting, Manner}
use Rattle.tocmark_spelling.specs.Body.{Trees}
use Rattle.tocmark_spelling.specs.Page.{Page}
use Rattle.tocmark_write_labels.specs.Document.{DocumentView}
use Rattle.tocmark_choose.specs.Choice.{Chosen, accepted, definitions_of, spelled}
use Rattle.tocmark_choose.specs.ReadsBack.{ReadsBack}

-- in this manner the unit is spelled as this page, whose text reads back as the unit, after the definitions that it needs
pub record ReadsBackAs (s : Setting) (d : DocumentView) (f : Trees) (next : Option EventView) (m : Manner) (p : Page) : Type 0 where
  pub is_spelled : spelled s d f next m ≡ Some p
  pub is_read_back : ReadsBack s d f (definitions_of p) p.sheet.text

-- the unit's spelling in this manner reads back
abbrev pub ReadsBackIn : Setting → DocumentView → Trees → Option EventView → Manner → Type 0
ReadsBackIn s d f next m = (p : Page) × ReadsBackAs s d f next m p

-- in none of these manners the unit's spelling reads back
abbrev pub NoneReadsBack : Setting → DocumentView → Trees → Option EventView → List Manner → Type 0
NoneReadsBack s d f next ms = AllByRecursion (λ m. ReadsBackIn s d f next m → ⊥) ms

-- the first of these manners in which the unit's spelling reads back, and the page that it is spelled as
pub record IsFirstReadBack (s : Setting) (d : DocumentView) (f : Trees) (next : Option EventView) (ms : List Manner) (p : Page) : Type 0 where
  pub before : List Manner
  pub manner : Manner
  pub after : List Manner
  pub is : ms ≡ before ++ manner ∷ after
  pub none_before : NoneReadsBack s d f next before
  pub reads_back : ReadsBackAs s d f next manner p

-- a unit's choice among these manners: the first in which its spelling reads back, or it can't be represented where in none it does
pub data IsChosenAmong (s : Setting) (d : DocumentView) (f : Trees) (next : Option EventView) (ms : List Manner) (answer : Chosen) : Type 0 where
  First : (p : Page) → IsFirstReadBack s d f next ms p → answer ≡ accepted s d p → IsChosenAmong s d f next ms answer
  Nothing : NoneReadsBack s d f next ms → answer ≡ Err Unrepresentable → IsChosenAmong s d f next ms answer
