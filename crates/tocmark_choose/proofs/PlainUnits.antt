-- What is chosen for a unit that isn't checked, and of which no source is asked or whose texts are spelled alike there and escaped:
-- its preferred spelling.
use Rattle.std.proofs.Common.{◌≡◌, Bool, true, false, ◌&&◌, ◌||◌, ◌==◌, ℕ, Option, Some, None, [], refl, sym, ap, ◌∙◌, subst, ⊎_elim, bytes_eq, codes}
use Rattle.std.proofs.lemmas.Bool.{or_cases}
use Rattle.std.proofs.lemmas.Bool.Decides.{Decides-eqb}
use Rattle.tocmark_event.specs.Forest.{flat}
use Rattle.tocmark_event.specs.View.{EventView}
use Rattle.tocmark_event.specs.Options.{OptionsView}
use Rattle.tocmark_spelling.specs.Body.{Trees}
use Rattle.tocmark_spelling.specs.Plan.{Setting}
use Rattle.tocmark_spelling.specs.Page.{Page}
use Rattle.tocmark_spelling.specs.Plan.{Manner}
use Rattle.tocmark_spelling.specs.declared.plan.Layout.TheVariants.{Preferred}
use Rattle.tocmark_spelling.specs.declared.plan.TextSpelling.TheVariants.{Escaped}
use Rattle.tocmark_write_texts.specs.Bare.{is_mark}
use Rattle.tocmark_choose.specs.Alike.{AreAlike}
use Rattle.tocmark_choose.specs.declared.alike.Place.TheVariants.{Front}
use Rattle.tocmark_choose.specs.Candidates.{candidates, has_event, has_source, in_manner, is_checked, is_delimiter_block, own_markers}
use Rattle.tocmark_choose.specs.Choice.{accepted_if, choice, definitions_of, if_read_back, page_read_back, preferred, has_standard_markers, spelled}
use Rattle.tocmark_choose.specs.ReadsBack.{reads_back}
use Rattle.tocmark_write_labels.specs.Document.{DocumentView}
use Rattle.tocmark_choose.specs.Tries.{Asked, first, misplaced}
use Rattle.tocmark_choose.specs.Validates.{validates}
use Rattle.tocmark_choose.proofs.AlikeUnits.{spelled-alike}
use Rattle.tocmark_choose.proofs.Trials.{both_true, by-place, candidates-are, choice-lost, choice-unsearched, first-none, first-step, found_or_else, read, searched-first}

-- the source isn't asked where there is none or where the markers aren't Markdown's
unasked : (source markers : Bool) → markers ≡ true → (source && markers) ≡ false → source ≡ false
unasked true markers m h = sym m ∙ h
unasked false markers m h = refl

left-false : (a b : Bool) → (a || b) ≡ false → a ≡ false
left-false true b h = h
left-false false b h = refl

-- a unit without delimiters isn't checked where the options don't ask for it
pub unchecked : (o : OptionsView) (f : Trees) → is_delimiter_block f ≡ false → o.check_plain_blocks ≡ false → is_checked o f ≡ false
unchecked o f plain off = λ j. plain j || (off j && has_event f)

-- the markers of Markdown's emphasis are marks
token-mark : (e : ℕ) → ((e == 42) || (e == 95)) ≡ true → is_mark e ≡ true
token-mark e h =
    ⊎_elim (λ t. subst (λ n. is_mark n ≡ true) (sym ((Decides-eqb e 42).0 t)) refl) (λ t. subst (λ n. is_mark n ≡ true) (sym ((Decides-eqb e 95).0 t)) refl) (or_cases (e == 42) (e == 95) h)

or-none : (o : Option Page) → found_or_else o None ≡ o
or-none None = refl
or-none (Some p) = refl

module _ (s : Setting) (d : DocumentView) (f : Trees) (next : Option EventView) where
  abbrev q : Asked
  q = record { setting = s; unit = f; next = next }

  none-tried : is_delimiter_block f ≡ false → is_checked s.options f ≡ false → has_source f ≡ false → first q d (candidates s.options f) ≡ None
  none-tried plain off source =
      subst (λ ms. first q d ms ≡ None) (candidates-are s.options s.options f false false false refl (sym source) (sym plain) (sym off)) (first-none q d)

  -- nothing is searched where the unit isn't checked and none of its texts has a source
  pub choice-unread : has_standard_markers s.options ≡ true → is_checked s.options f ≡ false → has_source f ≡ false → choice s d f next ≡ preferred s d f next
  choice-unread m off source =
      choice-lost q d m (none-tried (left-false (is_delimiter_block f) (s.options.check_plain_blocks && has_event f) off) off source)
      (ap (λ b. b && validates s.options s.flags) off)

  by-markers : (b : Bool) → has_standard_markers s.options ≡ b → is_checked s.options f ≡ false → (has_source f && has_standard_markers s.options) ≡ false → choice s d f next ≡ preferred s d f next
  by-markers false m off h = choice-unsearched q d m
  by-markers true m off h = choice-unread m off (unasked (has_source f) (has_standard_markers s.options) m h)

  -- nothing is searched where the source isn't asked
  pub choice-unasked : is_delimiter_block f ≡ false → s.options.check_plain_blocks ≡ false → (has_source f && has_standard_markers s.options) ≡ false → choice s d f next ≡ preferred s d f next
  choice-unasked plain off a = by-markers (has_standard_markers s.options) refl (unchecked s.options f plain off) a

  -- the preferred layout, from the source or escaped
  abbrev manner : Bool → Manner
  manner source = in_manner Preferred Escaped (own_markers s.options) source

  module _ (m : has_standard_markers s.options ≡ true) (off : is_checked s.options f ≡ false) (alike : AreAlike false Front (flat f)) where
    same : spelled s d f next (manner true) ≡ spelled s d f next (manner false)
    same =
        let tokens = both_true ((s.options.emphasis_token == 42) || (s.options.emphasis_token == 95)) (bytes_eq s.options.strong_token (codes "**") || bytes_eq s.options.strong_token (codes "__")) m in
        spelled-alike s (own_markers s.options) (token-mark s.options.emphasis_token tokens.0) d f next alike

    -- one spelling is tried
    only-first : has_source f ≡ true → first q d (candidates s.options f) ≡ page_read_back s d f (spelled s d f next (manner true))
    only-first source =
        let plain = left-false (is_delimiter_block f) (s.options.check_plain_blocks && has_event f) off in
        ap (first q d) (sym (candidates-are s.options s.options f true false false refl (sym source) (sym plain) (sym off)))
        ∙ first-step q d (manner true) []
        ∙ ap (found_or_else (read q d (manner true))) (first-none q d)
        ∙ or-none (read q d (manner true))

    sourced : has_source f ≡ true → misplaced q ≡ false → choice s d f next ≡ preferred s d f next
    sourced source placed = by (spelled s d f next (manner true)) refl
      where
        lost : first q d (candidates s.options f) ≡ None → choice s d f next ≡ preferred s d f next
        lost e = choice-lost q d m e (ap (λ b. b && validates s.options s.flags) off)

        by-reading : (p : Page) (b : Bool) → spelled s d f next (manner true) ≡ Some p → reads_back s d f (definitions_of p) p.sheet.text ≡ b → choice s d f next ≡ preferred s d f next
        by-reading p true e r =
            searched-first q d m (Some p) placed (only-first source ∙ ap (page_read_back s d f) e ∙ ap (λ b. if_read_back b p) r)
            ∙ ap (accepted_if s d) (sym e ∙ same)
        by-reading p false e r = lost (only-first source ∙ ap (page_read_back s d f) e ∙ ap (λ b. if_read_back b p) r)

        by : (o : Option Page) → spelled s d f next (manner true) ≡ o → choice s d f next ≡ preferred s d f next
        by None e = lost (only-first source ∙ ap (page_read_back s d f) e)
        by (Some p) e = by-reading p (reads_back s d f (definitions_of p) p.sheet.text) e refl

    by-source : (b : Bool) → has_source f ≡ b → choice s d f next ≡ preferred s d f next
    by-source true e = by-place q d (misplaced q) refl (sourced e)
    by-source false e = choice-unread m off e

    -- nothing rests on the search where the texts are spelled alike in the source and escaped
    pub choice-alike : choice s d f next ≡ preferred s d f next
    choice-alike = by-source (has_source f) refl
