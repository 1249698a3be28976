-- The rows of leaves are those of the definition.
use Rattle.std.proofs.Common.{◌≡◌, ℕ, Bool, true, false, Option, Some, None, List, Result, refl, sym, ap, ◌∙◌, subst}
use Rattle.std.specs.Prelude.{OnOk, chars, length, if◌then◌else◌}
use Rattle.tocmark_event.specs.View.{EventView, LeafView, Leaf, Start, End, Text, SourcedEvent, SourcedLeaf}
use Rattle.tocmark_spelling.specs.Buffered.{sourced}
use Rattle.tocmark_spelling.specs.Kinds.{is_text, and_is}
use Rattle.tocmark_spelling.specs.Machine.{around}
use Rattle.tocmark_spelling.specs.Page.{Around, Held, Path, Page, Site, front}
use Rattle.tocmark_spelling.specs.Places.{widened}
use Rattle.tocmark_spelling.specs.Plan.{Setting, Manner}
use Rattle.tocmark_spelling.specs.PlanOf.{shown}
use Rattle.tocmark_spelling.specs.Stretch.{held_with, inline_on, leaf_on, leaf_text, stretch_on, text_on}
use Rattle.tocmark_spelling.specs.Words.{or_else}
use Rattle.tocmark_write_renderer.proofs.Gaps.{gap-text}
use Rattle.tocmark_write_renderer.specs.WriterOf.{Rendering, begun, held_after, unheld}
use Rattle.tocmark_write_inlines.specs.Led.{StandsAt, held_or_shown, shown_on, spelled_on}

-- the leaf of an event that is one
abbrev leaf_in : SourcedLeaf → SourcedEvent → SourcedLeaf
leaf_in l (Start t) = l
leaf_in l (End k) = l
leaf_in l (Leaf x) = x

module _ {X Y : Type 0} (result : Result X Y) (w : Rendering) (s : Setting) (m : Manner) (a : Around) (path : Path) (p : Page) where
  -- a call came to this place
  abbrev At : Site → Type 0
  At here = OnOk result (StandsAt w here)

  on-text : (x : LeafView) (source : Option (List ℕ)) → leaf_text s m x source a path p ≡ leaf_on s m (record { leaf = x; source = source }) a path p
  unfolding leaf_on
  on-text x source = refl

  -- an event's leaf led here
  pub leaf-reached : (v : EventView) (x : LeafView) (source : Option (List ℕ)) (l : SourcedLeaf) → v ≡ Leaf x → sourced v source ≡ Leaf l → At (leaf_text s m x source a path p) → At (leaf_on s m l a path p)
  leaf-reached v x source l e is h =
      let whole : SourcedLeaf = record { leaf = x; source = source } in
      let same : whole ≡ l = ap (leaf_in whole) (sym (ap (λ v. sourced v source) e) ∙ is) in
      subst (λ l. At (leaf_on s m l a path p)) same (subst At (on-text x source) h)

  -- an inline leaf with this text led here
  pub spelled-reached : (v : EventView) (x : LeafView) (t text : List ℕ) (source : Option (List ℕ)) (l : SourcedLeaf) → v ≡ Leaf x → t ≡ text → sourced v source ≡ Leaf l → inline_on x text path p ≡ leaf_text s m x source a path p → At (spelled_on v t path p) → At (leaf_on s m l a path p)
  spelled-reached v x t text source l e te is row h =
      leaf-reached v x source l e is (subst At row (subst (λ t. At (spelled_on (Leaf x) t path p)) te (subst (λ v. At (spelled_on v t path p)) e h)))

held-same : (o : Option Held) (text : List ℕ) (source : Option (List ℕ)) (before rest : List SourcedEvent) (next previous : Option EventView) → previous ≡ front before → held_with o text source (around before rest next) ≡ held_after o text source previous
held-same None text source before rest next previous e = ap (λ x. begun text source x) (sym e)
held-same (Some h) text source before rest next previous e = refl

stretch-shown : (s : Setting) (m : Manner) (x : Held) (text : List ℕ) (next : Option EventView) (path : Path) (p : Page) → stretch_on s m x next path p ≡ shown_on s.options s.flags m.plan.text m.source x (Leaf (Text text)) next path p
stretch-shown s m x text next path p =
    ap (λ here. record { path = widened (length (chars x.text)) path; page = shown s.options s.flags m.plan.text m.source x next path here }) (gap-text x.text text path (unheld p))

module _ (s : Setting) (m : Manner) (before rest : List SourcedEvent) (next : Option EventView) (path : Path) (p : Page) (text : List ℕ) (source : Option (List ℕ)) where
  abbrev Shown : Bool → Held → Option EventView → Site
  Shown more x after = held_or_shown more s.options s.flags m.plan.text m.source x (Leaf (Text text)) after path p

  by_more : (more : Bool) (x : Held) (after : Option EventView) → Shown more x after ≡ (if more then record { path = path; page = record p { held = Some x } } else stretch_on s m x after path p)
  by_more true x after = refl
  by_more false x after = sym (stretch-shown s m x text after path p)

  -- where a text leads
  pub text-row : (previous after : Option EventView) (more : Bool) → previous ≡ front before → more ≡ and_is is_text (front rest) → after ≡ or_else (front rest) next → Shown more (held_after p.held text source previous) after ≡ text_on s m text source (around before rest next) path p
  text-row previous after more pe me ae =
      ap (λ x. Shown more x after) (sym (held-same p.held text source before rest next previous pe))
      ∙ ap (λ b. Shown b (held_with p.held text source (around before rest next)) after) me
      ∙ ap (λ n. Shown (and_is is_text (front rest)) (held_with p.held text source (around before rest next)) n) ae
      ∙ by_more (and_is is_text (front rest)) (held_with p.held text source (around before rest next)) (or_else (front rest) next)
