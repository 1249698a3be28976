-- A text of a stretch that is written.
use Rattle.std.proofs.Common.{◌≡◌, ◌∙◌, ℕ, Bool, false, true, List, Option, Some, None, Result, ap, refl, sym, subst, unwrap_or}
use Rattle.std.proofs.lemmas.Result.{on_ok_weaker}
use Rattle.std.specs.Option.{option_map}
use Rattle.std.specs.Prelude.{OnOk, chars, length}
use Rattle.tocmark_event.specs.Options.{OptionsView}
use Rattle.tocmark_event.specs.View.{EventView}
use Rattle.tocmark_event.specs.declared.event.flags.ParserOptions.{ParserOptions}
use Rattle.tocmark_spelling.specs.Gap.{gap}
use Rattle.tocmark_spelling.specs.Page.{Held, Path, Page, Site}
use Rattle.tocmark_spelling.specs.Places.{widened}
use Rattle.tocmark_spelling.specs.PlanOf.{shown}
use Rattle.tocmark_spelling.specs.declared.plan.TextSpelling.{TextSpelling}
use Rattle.tocmark_write_renderer.specs.Changes.{holding, on_page}
use Rattle.tocmark_write_renderer.specs.WriterOf.{Rendering, Stands, begun, held_after, levels_of, longer, page_of, site_of, unheld}
use Rattle.tocmark_write_inlines.specs.Led.{StandsAt, held_or_shown}

module _ {X Y : Type 0} (result : Result X Y) (w mid : Rendering) (o : OptionsView) (flags : ParserOptions) (text : TextSpelling) (source : Bool) (e : EventView) (next : Option EventView) where
  abbrev Shows : Held → Path → Page → Type 0
  Shows h path page = OnOk result (Stands w (widened (length (chars h.text)) path) (shown o flags text source h next path (gap e path page)))

  -- a stretch was written
  pub shown-at : (more : Bool) (h whole : Held) (path : Path) (p : Page) → more ≡ false → h ≡ whole → Stands mid path (unheld p) → Shows h (levels_of mid) (page_of mid) → OnOk result (StandsAt w (held_or_shown more o flags text source whole e next path p))
  shown-at more h whole path p last same stands shows =
      let P : Path → Type 0 = λ x. Shows h x (page_of mid) in
      let Q : Page → Type 0 = λ x. Shows h path x in
      let R : Held → Type 0 = λ x. Shows x path (unheld p) in
      let T : Bool → Type 0 = λ b. OnOk result (StandsAt w (held_or_shown b o flags text source whole e next path p)) in
      subst T (sym last) (subst R same (subst Q stands.page_is (subst P stands.path_is shows)))

  -- a stretch was written after its gap, and the nearest cell widened
  pub shown-wide : (one two : Rendering) (h : Held) → Stands one (levels_of mid) (gap e (levels_of mid) (page_of mid)) → Stands two (levels_of one) (shown o flags text source h next (levels_of one) (page_of one)) → OnOk result (Stands w (widened (length (chars h.text)) (levels_of two)) (page_of two)) → Shows h (levels_of mid) (page_of mid)
  shown-wide one two h gapped written wide =
      on_ok_weaker result (λ k. record {
        path_is = k.path_is ∙ ap (widened (length (chars h.text))) (written.path_is ∙ gapped.path_is);
        page_is = k.page_is ∙ written.page_is ∙ ap (λ x. shown o flags text source h next x (page_of one)) gapped.path_is ∙ ap (shown o flags text source h next (levels_of mid)) gapped.page_is;
      }) wide

-- a stretch is held
pub held-at : (w mid old : Rendering) (o : OptionsView) (flags : ParserOptions) (text : TextSpelling) (source : Bool) (e : EventView) (next : Option EventView) (more : Bool) (h whole : Held) → more ≡ true → h ≡ whole → site_of mid ≡ on_page unheld (site_of old) → site_of w ≡ on_page (holding (Some h)) (site_of mid) → StandsAt w (held_or_shown more o flags text source whole e next (levels_of old) (page_of old))
held-at w mid old o flags text source e next more h whole goes same taken site =
    let T : Bool → Type 0 = λ b. StandsAt w (held_or_shown b o flags text source whole e next (levels_of old) (page_of old)) in
    subst T (sym goes) (record {
      path_is = ap (λ (s : Site). s.path) site ∙ ap (λ (s : Site). s.path) taken;
      page_is = ap (λ (s : Site). s.page) site ∙ ap (λ (s : Site). holding (Some h) s.page) taken ∙ ap (λ x. record (page_of old) { held = Some x }) same;
    })

-- the stretch that was held with one more text, else the one that the text begins
joined : (x : Option Held) (words : List ℕ) (from : Option (List ℕ)) (previous : Option EventView) → unwrap_or (option_map (λ h. longer h words from) x) (begun words from previous) ≡ held_after x words from previous
joined None words from previous = refl
joined (Some h) words from previous = refl

-- the same of what was held on a page
pub joined-on : (p : Page) (x y : Option Held) (h : Held) (words : List ℕ) (from : Option (List ℕ)) (previous : Option EventView) → x ≡ p.held → y ≡ option_map (λ h. longer h words from) x → h ≡ unwrap_or y (begun words from previous) → h ≡ held_after p.held words from previous
joined-on p x y h words from previous held more is =
    is ∙ ap (λ z. unwrap_or z (begun words from previous)) more ∙ joined x words from previous ∙ ap (λ z. held_after z words from previous) held
