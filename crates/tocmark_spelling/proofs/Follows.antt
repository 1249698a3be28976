-- The machine goes over a forest's events as the spelling of the forest says.
use Rattle.std.proofs.Common.{◌≡◌, ℕ, zero, suc, Bool, true, false, Option, Some, None, List, [], ◌∷◌, refl, sym, ap, ◌∙◌}
use Rattle.tocmark_event.specs.View.{TagView, SourcedEvent, EventView, Start, End, Leaf, end_of}
use Rattle.tocmark_event.specs.Forest.{empty, leaf, node, flat_onto, flat, joined}
use Rattle.tocmark_event.specs.declared.event.TagEnd.{TagEnd}
use Rattle.tocmark_spelling.specs.Plan.{Setting, Manner}
use Rattle.tocmark_spelling.specs.Body.{Trees, back_onto}
use Rattle.tocmark_spelling.specs.Look.{look}
use Rattle.tocmark_spelling.specs.Page.{Site}
use Rattle.tocmark_spelling.specs.Gap.{gap}
use Rattle.tocmark_spelling.specs.Opening.{opening}
use Rattle.tocmark_spelling.specs.Closing.{closing}
use Rattle.tocmark_spelling.specs.Stretch.{leaf_on}
use Rattle.tocmark_spelling.specs.Spelling.{then_site, skips_body, id_on, body_or_id, spelling}
use Rattle.tocmark_spelling.specs.Machine.{Layers, layers, with_node, kids_of, behind_end, going, skipping, refused, arrive, skip, entered, started, around, begun, begun_if, run, answer_of}

joined-none : (f : Trees) → joined f empty ≡ f
joined-none empty = refl
joined-none (leaf l f) = ap (leaf l) (joined-none f)
joined-none (node t kids f) = ap (node t kids) (joined-none f)

abbrev before_layers : Trees → Layers → Layers
before_layers f l = record l { inner = joined f l.inner }

layers-flat : (f : Trees) (r : List SourcedEvent) → layers (flat_onto f r) ≡ before_layers f (layers r)
layers-flat empty r = refl
layers-flat (leaf l f) r = ap (λ (x : Layers). record x { inner = leaf l x.inner }) (layers-flat f r)
layers-flat (node t kids f) r =
    ap (λ (x : Layers). with_node t x.inner x.outer) (layers-flat kids (End (end_of t) ∷ flat_onto f r))
    ∙ ap (λ (x : Layers). with_node t (joined kids empty) (x.inner ∷ x.outer)) (layers-flat f r)
    ∙ ap (λ k. before_layers (node t k f) (layers r)) (joined-none kids)

pub kids-flat : (kids : Trees) (k : TagEnd) (r : List SourcedEvent) → kids_of (flat_onto kids (End k ∷ r)) ≡ kids
kids-flat kids k r = ap (λ (x : Layers). x.inner) (layers-flat kids (End k ∷ r)) ∙ joined-none kids

behind-flat : (f : Trees) (d : ℕ) (r : List SourcedEvent) → behind_end d (flat_onto f r) ≡ behind_end d r
behind-flat empty d r = refl
behind-flat (leaf l f) zero r = behind-flat f zero r
behind-flat (leaf l f) (suc d) r = behind-flat f (suc d) r
behind-flat (node t kids f) d r = behind-flat kids (suc d) _ ∙ behind-flat f d r

module _ (s : Setting) (m : Manner) (next : Option EventView) where
  pub run-refused : (es : List SourcedEvent) → run s m next es refused ≡ refused
  run-refused [] = refl
  run-refused (e ∷ es) = run-refused es

  run-skip : (f : Trees) (r before : List SourcedEvent) (d : ℕ) (here : Site) → run s m next (flat_onto f r) (skipping d here before) ≡ run s m next r (skipping d here (back_onto f before))
  run-skip empty r before d here = refl
  run-skip (leaf l f) r before d here = run-skip f r (Leaf l ∷ before) d here
  run-skip (node t kids f) r before d here =
      run-skip kids _ (Start t ∷ before) (suc d) here ∙ run-skip f r (End (end_of t) ∷ back_onto kids (Start t ∷ before)) d here

  abbrev Follows : Trees → Type 0
  Follows f = (r before : List SourcedEvent) (here : Site) → run s m next (flat_onto f r) (going here before) ≡ run s m next r (arrive (spelling s m f (around before r next) here.path here.page) (back_onto f before))

  -- what follows a container
  abbrev on_right : Trees → List SourcedEvent → List SourcedEvent → Site → Option Site
  on_right f r before here = spelling s m f (around before r next) here.path here.page

  module _ (t : TagView) (kids f : Trees) (r before : List SourcedEvent) (after : Follows f) where
    abbrev ahead : List SourcedEvent
    ahead = End (end_of t) ∷ flat_onto f r

    abbrev behind : List SourcedEvent
    behind = back_onto kids (Start t ∷ before)

    abbrev right : Site → Option Site
    right here = on_right f r (End (end_of t) ∷ behind) here

    left-follows : (o : Option Site) → run s m next (flat_onto f r) (arrive o (End (end_of t) ∷ behind)) ≡ run s m next r (arrive (then_site o right) (back_onto f (End (end_of t) ∷ behind)))
    left-follows None = run-refused (flat_onto f r) ∙ sym (run-refused r)
    left-follows (Some here) = after r (End (end_of t) ∷ behind) here

    abbrev full : Option Site → Option Site
    full o = then_site o (λ here. then_site (closing s.options here.path here.page) right)

    closes : (o : Option Site) → run s m next ahead (arrive o behind) ≡ run s m next r (arrive (full o) (back_onto f (End (end_of t) ∷ behind)))
    closes None = run-refused (flat_onto f r) ∙ sym (run-refused r)
    closes (Some here) = left-follows (closing s.options here.path here.page)

    abbrev body : Site → Option Site
    body here = spelling s m kids (around (Start t ∷ before) ahead next) here.path here.page

    skip-follows : (o : Option Site) → run s m next (flat_onto kids ahead) (skip o (Start t ∷ before)) ≡ run s m next r (arrive (full o) (back_onto f (End (end_of t) ∷ behind)))
    skip-follows None = run-refused (flat_onto kids ahead) ∙ sym (run-refused r)
    skip-follows (Some here) = run-skip kids ahead (Start t ∷ before) 0 here ∙ left-follows (closing s.options here.path here.page)

    entered-follows : Follows kids → (b : Bool) (here : Site) → run s m next (flat_onto kids ahead) (entered b t here (Start t ∷ before)) ≡ run s m next r (arrive (full (body_or_id b t here body)) (back_onto f (End (end_of t) ∷ behind)))
    entered-follows below true here = skip-follows (id_on t here)
    entered-follows below false here = below ahead (Start t ∷ before) here ∙ closes (body here)

    started-follows : Follows kids → (o : Option Site) → run s m next (flat_onto kids ahead) (started t o (Start t ∷ before)) ≡ run s m next r (arrive (then_site o (λ here. full (body_or_id (skips_body here.path) t here body))) (back_onto f (End (end_of t) ∷ behind)))
    started-follows below None = run-refused (flat_onto kids ahead) ∙ sym (run-refused r)
    started-follows below (Some here) = entered-follows below (skips_body here.path) here

    begins : (here : Site) → begun_if s m next t (kids_of (flat_onto kids ahead)) (behind_end 0 (flat_onto kids ahead)) here before ≡ begun s m next t kids (flat_onto f r) here before
    begins here =
        ap (λ o. begun_if s m next t (kids_of (flat_onto kids ahead)) o here before) (behind-flat kids 0 ahead)
        ∙ ap (λ k. begun s m next t k (flat_onto f r) here before) (kids-flat kids (end_of t) (flat_onto f r))

  pub follows : (f : Trees) → Follows f
  unfolding spelling
  follows empty r before here = refl
  follows (leaf l f) r before here = follows f r (Leaf l ∷ before) (leaf_on s m l (around before (flat_onto f r) next) here.path here.page)
  follows (node t kids f) r before here =
      ap (run s m next (flat_onto kids (End (end_of t) ∷ flat_onto f r))) (begins t kids f r before (follows f) here)
      ∙ started-follows t kids f r before (follows f) (follows kids) (opening s m t (look s m t kids (around before (flat_onto f r) next)) here.path (gap (Start t) here.path here.page))

  answer-arrive : (o : Option Site) (before : List SourcedEvent) → answer_of (arrive o before) ≡ o
  answer-arrive None before = refl
  answer-arrive (Some here) before = refl

  -- a run over a forest's events comes to an end where the forest's spelling does
  pub spells : (f : Trees) (here : Site) → answer_of (run s m next (flat f) (going here [])) ≡ spelling s m f (around [] [] next) here.path here.page
  spells f here = ap answer_of (follows f [] [] here) ∙ answer-arrive _ _

  -- forests with the same events have one spelling
  pub same-spelling : (f g : Trees) (here : Site) → flat f ≡ flat g → spelling s m f (around [] [] next) here.path here.page ≡ spelling s m g (around [] [] next) here.path here.page
  same-spelling f g here e = sym (spells f here) ∙ ap (λ es. answer_of (run s m next es (going here []))) e ∙ spells g here
