-- A unit's run is the spelling of its trees.
use Rattle.std.proofs.Common.{◌≡◌, List, [], Option, subst}
use Rattle.tocmark_event.specs.View.{EventView, SourcedEvent}
use Rattle.tocmark_event.specs.Forest.{flat}
use Rattle.tocmark_spelling.specs.Body.{Trees}
use Rattle.tocmark_spelling.specs.Machine.{going, run, answer_of, around}
use Rattle.tocmark_spelling.specs.Page.{Site}
use Rattle.tocmark_spelling.specs.Plan.{Setting, Manner}
use Rattle.tocmark_spelling.specs.Spelling.{spelling}
use Rattle.tocmark_spelling.proofs.Follows.{spells}

-- the run of a unit's events is the spelling of its trees
pub unit-run : (s : Setting) (m : Manner) (next : Option EventView) (f : Trees) (es : List SourcedEvent) (here : Site) → flat f ≡ es → answer_of (run s m next es (going here [])) ≡ spelling s m f (around [] [] next) here.path here.page
unit-run s m next f es here is =
    let P : List SourcedEvent → Type 0 = λ x. answer_of (run s m next x (going here [])) ≡ spelling s m f (around [] [] next) here.path here.page in
    subst P is (spells s m next f here)
