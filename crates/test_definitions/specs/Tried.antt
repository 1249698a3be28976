-- All the spellings that are tried for a unit, in order.
use Rattle.std.specs.Prelude.{◌≡◌, ℕ, Option, Some, None, List, [], ◌∷◌, ◌++◌, codes, flat_map}
use Rattle.tocmark_spelling.specs.Body.{Trees}
use Rattle.tocmark_spelling.specs.Page.{Page}
use Rattle.tocmark_spelling.specs.Plan.{Setting}
use Rattle.tocmark_choose.specs.Candidates.{candidates}
use Rattle.tocmark_choose.specs.Choice.{spelled}
use Rattle.tocmark_write_labels.specs.Document.{first_document}

-- an example: a setting, a unit, and its spelling by each candidate, each with a line feed after it
pub record Tried : Type 0 where
  pub setting : Setting
  pub trees : Trees
  pub texts : List ℕ

-- a spelling with a line feed after it; a line feed alone where there is none
abbrev pub line_of : Option Page → List ℕ
line_of None = codes "\n"
line_of (Some p) = p.sheet.text ++ codes "\n"

abbrev pub IsTried : Tried → Type 0
IsTried r = flat_map (λ m. line_of (spelled r.setting first_document r.trees None m)) (candidates r.setting.options
    r.trees) ≡ r.texts

-- each is spelled as it says
unfoldable pub AreTried : List Tried → Type 0
AreTried [] = Unit {0}
AreTried (r ∷ rs) = IsTried r × AreTried rs
