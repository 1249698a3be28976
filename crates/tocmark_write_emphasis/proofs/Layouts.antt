-- The marker in a manner's own layout.
use Rattle.std.proofs.Common.{◌≡◌, ◌∙◌, ℕ, Bool, List, sym, ap}
use Rattle.std.specs.Prelude.{unwrap_or}
use Rattle.tocmark_event.specs.View.{TagView}
use Rattle.tocmark_spelling.specs.Look.{Look}
use Rattle.tocmark_spelling.specs.Marker.{asked_marker, in_width, literal_marker, marker_by_sharing, marker_in, marker}
use Rattle.tocmark_spelling.specs.Page.{Path, Page}
use Rattle.tocmark_spelling.specs.Plan.{Setting, Manner}
use Rattle.tocmark_spelling.specs.declared.plan.Layout.{Layout}
use Rattle.tocmark_spelling.specs.declared.plan.Layout.TheVariants.{Shared, RuleThree}
use Rattle.tocmark_write_emphasis.specs.Facts.{shared_token}

module _ (s : Setting) (m : Manner) (t : TagView) (l : Look) (path : Path) (p : Page) where
  pub in-layout : (layout : Layout) → m.plan.layout ≡ layout → marker_in layout s m t l path p ≡ marker s m t l path p
  unfolding marker
  in-layout layout e = ap (λ x. marker_in x s m t l path p) (sym e)

  -- the token in any layout, as it is shared in that one
  abbrev shared_in : Layout → List ℕ
  shared_in x = in_width t (unwrap_or (literal_marker m.plan.text l) (marker_by_sharing s x (asked_marker m.markers t) t l path p))

  pub shared-is : (ends adjacent split : Bool) → m.plan.layout ≡ Shared ends adjacent split → shared_token s m t l path p ≡ marker s m t l path p
  shared-is ends adjacent split e = ap shared_in e ∙ in-layout (Shared ends adjacent split) e

  pub three-is : m.plan.layout ≡ RuleThree → shared_token s m t l path p ≡ marker s m t l path p
  three-is e = ap shared_in e ∙ in-layout RuleThree e
