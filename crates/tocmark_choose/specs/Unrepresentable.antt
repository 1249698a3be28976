-- Which units can't be represented.
use Rattle.std.specs.Prelude.{◌≡◌, true, false, Option, []}
use Rattle.tocmark_event.specs.View.{EventView}
use Rattle.tocmark_spelling.specs.Plan.{Setting}
use Rattle.tocmark_spelling.specs.Body.{Trees}
use Rattle.tocmark_spelling.specs.Spelling.{is_misplaced}
use Rattle.tocmark_write_labels.specs.Document.{DocumentView}
use Rattle.tocmark_choose.specs.Candidates.{candidates, is_checked}
use Rattle.tocmark_choose.specs.Choice.{has_standard_markers}
use Rattle.tocmark_choose.specs.FirstReadBack.{NoneReadsBack}
use Rattle.tocmark_choose.specs.Validates.{validates}

-- a unit that is checked, and in none of whose candidates its spelling reads back: no node is misplaced, the markers are
-- Markdown's, and the options are accepted with the flags
pub record IsUnrepresentable (s : Setting) (d : DocumentView) (f : Trees) (next : Option EventView) : Type 0 where
  pub placed : is_misplaced s [] f ≡ false
  pub standard : has_standard_markers s.options ≡ true
  pub checked : is_checked s.options f ≡ true
  pub accepted : validates s.options s.flags ≡ true
  pub none : NoneReadsBack s d f next (candidates s.options f)
