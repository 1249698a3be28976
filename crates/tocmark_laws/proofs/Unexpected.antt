-- A unit that is refused as unexpected has an event that isn't allowed where it is; one that can't be represented has no
-- candidate that reads back.
use Rattle.std.proofs.Common.{◌≡◌, Bool, true, false, ℕ, Option, Some, None, Ok, Err, List, [], refl, sym, ap, ◌∙◌, subst}
use Rattle.std.specs.Prelude.{◌&&◌}
use Rattle.tocmark_event.specs.Forest.{IsBalanced, flat}
use Rattle.tocmark_event.specs.Options.{OptionsView}
use Rattle.tocmark_event.specs.Reading.{ReadingView}
use Rattle.tocmark_event.specs.View.{EventView, SourcedEvent}
use Rattle.tocmark_event.specs.declared.event.flags.ParserOptions.{ParserOptions}
use Rattle.tocmark_event.specs.declared.options.Error.{Error}
use Rattle.tocmark_event.specs.declared.options.Error.TheVariants.{UnexpectedEvent, Unrepresentable}
use Rattle.tocmark_spelling.specs.Body.{Trees}
use Rattle.tocmark_spelling.specs.Page.{Page, Site}
use Rattle.tocmark_spelling.specs.Plan.{Setting, Manner}
use Rattle.tocmark_spelling.specs.Spelling.{is_misplaced, spelling}
use Rattle.tocmark_spelling.proofs.Refusals.{none-misplaced}
use Rattle.tocmark_laws.proofs.Misplaced.{labelled-start, start-labelled}
use Rattle.tocmark_choose.specs.Candidates.{candidates, is_checked, preferred_manner}
use Rattle.tocmark_choose.specs.Choice.{Chosen, accepted_if, by_markers, choice, first_or, first_that_reads_back, has_standard_markers, page_in, page_of, preferred, spelled, unless_misplaced}
use Rattle.tocmark_write_labels.specs.Document.{DocumentView}
use Rattle.tocmark_write_pending.specs.Placeholder.{whole}
use Rattle.tocmark_write_labels.specs.Units.{label_for, labelled}
use Rattle.tocmark_choose.specs.Chosen.{chosen}
use Rattle.tocmark_choose.specs.Unrepresentable.{IsUnrepresentable}
use Rattle.tocmark_choose.proofs.Chosen.{chosen-flat}
use Rattle.tocmark_choose.proofs.Unrepresentable.{unrepresentable-causes}
use Rattle.tocmark_choose.specs.Validates.{validates}
use Rattle.tocmark_state.specs.Walk.{Kept}
use Rattle.tocmark_state.specs.WorkView.{keeping, rendering}
use Rattle.tocmark_laws.specs.Unexpected.{IsMisplacedUnit, setting_at}
use Rattle.tocmark_laws.specs.UnrepresentableLists.{IsUnrepresentableUnit}

no-page : (o : Option Site) → page_of o ≡ None → o ≡ None
no-page None h = refl
no-page (Some here) h = absurd (cc)

not-accepted : (s : Setting) (d : DocumentView) (o : Option Page) → accepted_if s d o ≡ Err UnexpectedEvent → o ≡ None
not-accepted s d None h = refl
not-accepted s d (Some p) h = absurd (cc)

module _ (s : Setting) (d : DocumentView) (f : Trees) (next : Option EventView) where
  abbrev IsMisplaced : Type 0
  IsMisplaced = is_misplaced s [] f ≡ true

  unspelled : (m : Manner) → spelled s d f next m ≡ None → IsMisplaced
  unfolding spelled
  unspelled m h = (none-misplaced s m f (whole next) (page_in d)).0 (no-page (spelling s m f (whole next) [] (page_in d)) h)

  unpreferred : preferred s d f next ≡ Err UnexpectedEvent → IsMisplaced
  unpreferred h = unspelled (preferred_manner s.options) (not-accepted s d (spelled s d f next (preferred_manner s.options)) h)

  -- where no spelling reads back
  unfound : (b : Bool) → elim b as (λ _. Chosen) [ true ↦ Err Unrepresentable | false ↦ preferred s d f next ] ≡ Err UnexpectedEvent → IsMisplaced
  unfound true h = absurd (cc)
  unfound false h = unpreferred h

  none-first : (o : Option Page) → first_or s d f next o ≡ Err UnexpectedEvent → IsMisplaced
  none-first None h = unfound (is_checked s.options f && validates s.options s.flags) h
  none-first (Some p) h = absurd (cc)

  by-markers : (b : Bool) → by_markers b s d f next ≡ Err UnexpectedEvent → IsMisplaced
  by-markers true h = none-first (first_that_reads_back s d f next (candidates s.options f)) h
  by-markers false h = unpreferred h

  by-misplaced : (b : Bool) → is_misplaced s [] f ≡ b → unless_misplaced b s d f next ≡ Err UnexpectedEvent → IsMisplaced
  by-misplaced true e h = e
  by-misplaced false e h = by-markers (has_standard_markers s.options) h

  choice-misplaced : choice s d f next ≡ Err UnexpectedEvent → IsMisplaced
  unfolding choice
  choice-misplaced h = by-misplaced (is_misplaced s [] f) refl h

  pub misplaced-choice : IsMisplaced → choice s d f next ≡ Err UnexpectedEvent
  unfolding choice
  misplaced-choice h = ap (λ b. unless_misplaced b s d f next) h

-- what is chosen for the events of a forest
pub flat-choice : (s : Setting) (d : DocumentView) (f : Trees) (unit : List SourcedEvent) (next : Option EventView) → flat f ≡ unit → chosen s d unit next ≡ choice (labelled s d unit next) d f next
flat-choice s d f unit next same =
    subst (λ es. chosen s d es next ≡ choice (labelled s d es next) d f next) same (chosen-flat s d f next)

-- a unit is refused as unexpected only for an event that isn't allowed where it is
pub unit-misplaced : (s : Setting) (d : DocumentView) (unit : List SourcedEvent) (next : Option EventView) → IsBalanced unit → chosen s d unit next ≡ Err UnexpectedEvent → IsMisplacedUnit s unit
unit-misplaced s d unit next balanced h =
    let is_misplaced_there = choice-misplaced (labelled s d unit next) d balanced.0 next (sym (flat-choice s d balanced.0 unit next balanced.1) ∙ h) in
    record { forest = balanced.0; is = balanced.1; start = start-labelled s (label_for s d unit next) balanced.0 is_misplaced_there }

-- and it is refused where one is so
pub misplaced-unit : (s : Setting) (d : DocumentView) (unit : List SourcedEvent) (next : Option EventView) → IsMisplacedUnit s unit → chosen s d unit next ≡ Err UnexpectedEvent
misplaced-unit s d unit next h =
    flat-choice s d h.forest unit next h.is
    ∙ misplaced-choice (labelled s d unit next) d h.forest next (labelled-start s (label_for s d unit next) h.forest h.start)

-- a unit can't be represented only where none of its candidates reads back
unit-unrepresentable : (s : Setting) (d : DocumentView) (unit : List SourcedEvent) (next : Option EventView) (f : Trees) → flat f ≡ unit → chosen s d unit next ≡ Err Unrepresentable → IsUnrepresentable (labelled s d unit next) d f next
unit-unrepresentable s d unit next f same h =
    unrepresentable-causes (labelled s d unit next) d f next (sym (flat-choice s d f unit next same) ∙ h)

-- a document with its flags is left where a unit is chosen
not-kept : (flags : ParserOptions) (r : Chosen) (e : Error) → keeping flags r ≡ Err e → r ≡ Err e
not-kept flags (Ok x) e h = absurd (cc)
not-kept flags (Err x) e h = let same : x ≡ e = cc in ap (λ y. Err y) same

-- so it is of the units of each call
pub rendering-misplaced : (o : OptionsView) (reading : List ℕ → ParserOptions → ReadingView) (kept : Kept) (unit : List SourcedEvent) (next : Option EventView)
    → IsBalanced unit → (rendering o reading).choice kept unit next ≡ Err UnexpectedEvent → IsMisplacedUnit (setting_at o reading kept) unit
rendering-misplaced o reading kept unit next balanced h =
    let s = setting_at o reading kept in
    unit-misplaced s kept.document unit next balanced (not-kept kept.flags (chosen s kept.document unit next) UnexpectedEvent h)

pub rendering-unrepresentable : (o : OptionsView) (reading : List ℕ → ParserOptions → ReadingView) (kept : Kept) (unit : List SourcedEvent) (next : Option EventView)
    → IsBalanced unit → (rendering o reading).choice kept unit next ≡ Err Unrepresentable → IsUnrepresentableUnit (setting_at o reading kept) kept.document unit next
rendering-unrepresentable o reading kept unit next balanced h =
    let s = setting_at o reading kept in
    record {
      forest = balanced.0;
      is = balanced.1;
      cause = unit-unrepresentable s kept.document unit next balanced.0 balanced.1 (not-kept kept.flags (chosen s kept.document unit next) Unrepresentable h);
    }
