-- Which units have no label.
use Rattle.std.proofs.Common.{◌≡◌, false, if◌then◌else◌, Option, Some, None, refl, ap, ◌∙◌}
use Rattle.tocmark_event.specs.Forest.{flat}
use Rattle.tocmark_event.specs.View.{EventView}
use Rattle.tocmark_spelling.specs.Body.{Trees}
use Rattle.tocmark_spelling.specs.Plan.{Setting}
use Rattle.tocmark_write_labels.specs.Document.{DocumentView}
use Rattle.tocmark_write_labels.specs.Reserved.{reserved_label}
use Rattle.tocmark_write_labels.specs.Units.{label_for}
use Rattle.tocmark_write_pending.proofs.Forests.{waits-flat}
use Rattle.tocmark_write_pending.specs.Placeholder.{needs_placeholder}

module _ (s : Setting) (d : DocumentView) (f : Trees) where
  -- a unit that needs no placeholder has no label
  pub no-label : (next : Option EventView) → needs_placeholder f ≡ false → label_for s d (flat f) next ≡ None
  no-label (Some e) h = refl
  no-label None h = ap (λ b. if b then Some (reserved_label s d (flat f)) else None) (waits-flat f ∙ h)
