-- After a first unit, a walk goes on as one without the definitions that a document has already.
use Rattle.std.proofs.Common.{◌≡◌, ◌∙◌, ap, refl, ℕ, Bool, true, false, ◌&&◌, if◌then◌else◌, List, [], ◌∷◌, ◌++◌, Option, Some, None, Result, Ok, Err}
use Rattle.tocmark_event.specs.Options.{OptionsView}
use Rattle.tocmark_event.specs.Reading.{ReadingView}
use Rattle.tocmark_event.specs.View.{EventView, SourcedEvent, unsourced}
use Rattle.tocmark_event.specs.declared.event.TagEnd.{TagEnd}
use Rattle.tocmark_event.specs.declared.event.flags.ParserOptions.{ParserOptions}
use Rattle.tocmark_event.specs.declared.options.Error.{Error}
use Rattle.tocmark_event.specs.declared.options.Error.TheVariants.{Unrepresentable}
use Rattle.tocmark_spelling.specs.Body.{Trees}
use Rattle.tocmark_spelling.specs.Page.{Page, Reference}
use Rattle.tocmark_spelling.specs.Plan.{Setting}
use Rattle.tocmark_spelling.specs.PlanOf.{setting_of}
use Rattle.tocmark_spelling.specs.Spelling.{is_misplaced}
use Rattle.tocmark_write_labels.specs.Document.{DocumentView}
use Rattle.tocmark_write_labels.specs.Units.{labelled}
use Rattle.tocmark_write_pending.specs.Pending.{nested}
use Rattle.tocmark_write_pending.specs.Units.{trees_of, waits}
use Rattle.tocmark_choose.specs.Candidates.{candidates, is_checked, preferred_manner}
use Rattle.tocmark_choose.specs.Choice.{Chosen, accepted_if, by_markers, choice, document_after, first_or, first_that_reads_back, has_standard_markers, preferred, spelled, unless_misplaced}
use Rattle.tocmark_choose.specs.Chosen.{choice_of, chosen}
use Rattle.tocmark_choose.specs.Validates.{validates}
use Rattle.tocmark_state.specs.Ranges.{Pair, resolved}
use Rattle.tocmark_state.specs.Walk.{Kept, Rendering, Standing, Walk, advance, advance_with, flush_of, flushed, flushed_before, flushed_or_deferred, go_on, is_due, joins, step, walk, with_event}
use Rattle.tocmark_state.specs.WorkView.{keeping, rendering, rendering_behind}
use Rattle.tocmark_state.proofs.Behind.{later-alike}

-- a unit that is chosen was flushed
abbrev LeavesFlushed : Chosen → Type 0
LeavesFlushed (Ok x) = x.1.flushed ≡ true
LeavesFlushed (Err e) = Unit {0}

-- so says the document that is kept
abbrev KeepsFlushed : Result (List ℕ × Kept) Error → Type 0
KeepsFlushed (Ok x) = x.1.document.flushed ≡ true
KeepsFlushed (Err e) = Unit {0}

module _ (s : Setting) (d : DocumentView) (next : Option EventView) where
  accepted-flushed : (p : Option Page) → LeavesFlushed (accepted_if s d p)
  unfolding document_after
  accepted-flushed None = tt
  accepted-flushed (Some p) = refl

  module _ (f : Trees) where
    preferred-flushed : LeavesFlushed (preferred s d f next)
    preferred-flushed = accepted-flushed (spelled s d f next (preferred_manner s.options))

    checked-flushed : (b : Bool) → LeavesFlushed (elim b as (λ _. Chosen) [ true ↦ Err Unrepresentable | false ↦ preferred s d f next ])
    checked-flushed true = tt
    checked-flushed false = preferred-flushed

    first-flushed : (p : Option Page) → LeavesFlushed (first_or s d f next p)
    unfolding document_after
    first-flushed None = checked-flushed (is_checked s.options f && validates s.options s.flags)
    first-flushed (Some p) = refl

    marked-flushed : (b : Bool) → LeavesFlushed (by_markers b s d f next)
    marked-flushed true = first-flushed (first_that_reads_back s d f next (candidates s.options f))
    marked-flushed false = preferred-flushed

    placed-flushed : (b : Bool) → LeavesFlushed (unless_misplaced b s d f next)
    placed-flushed true = tt
    placed-flushed false = marked-flushed (has_standard_markers s.options)

    choice-flushed : LeavesFlushed (choice s d f next)
    unfolding choice
    choice-flushed = placed-flushed (is_misplaced s [] f)

  trees-flushed : (f : Option Trees) → LeavesFlushed (choice_of s d f next)
  trees-flushed None = tt
  trees-flushed (Some f) = choice-flushed f

chosen-flushed : (s : Setting) (d : DocumentView) (unit : List SourcedEvent) (next : Option EventView) → LeavesFlushed (chosen s d unit next)
unfolding chosen
chosen-flushed s d unit next = trees-flushed (labelled s d unit next) d next (trees_of unit)

kept-flushed : (flags : ParserOptions) (c : Chosen) → LeavesFlushed c → KeepsFlushed (keeping flags c)
kept-flushed flags (Ok x) h = h
kept-flushed flags (Err e) h = tt

-- in a standing whose document had a unit flushed
abbrev IsLater : Standing → Type 0
IsLater s = s.document.document.flushed ≡ true

abbrev EndsLater : Result Standing Error → Type 0
EndsLater (Ok s) = IsLater s
EndsLater (Err e) = Unit {0}

flush-later : (s : Standing) (c : Result (List ℕ × Kept) Error) → KeepsFlushed c → EndsLater (flush_of s c).outcome
flush-later s (Ok x) h = h
flush-later s (Err e) h = tt

event-later : (s : Standing) (e : SourcedEvent) (r : Result (List TagEnd) Error) → IsLater s → EndsLater (with_event s e r).outcome
event-later s e (Ok os) h = h
event-later s e (Err x) h = tt

joins-later : (e : SourcedEvent) (s : Standing) → IsLater s → EndsLater (joins e s).outcome
unfolding joins
joins-later e s h = event-later s e (nested s.open_tags (unsourced e)) h

on-later : (texts : List (List ℕ)) (o : Result Standing Error) (f : Standing → Walk Standing) → EndsLater o → ((t : Standing) → IsLater t → EndsLater (f t).outcome) → EndsLater (go_on texts o f).outcome
on-later texts (Ok t) f h k = k t h
on-later texts (Err e) f h k = tt

on-alike : (texts : List (List ℕ)) (o : Result Standing Error) (f g : Standing → Walk Standing) → EndsLater o → ((t : Standing) → IsLater t → f t ≡ g t) → go_on texts o f ≡ go_on texts o g
on-alike texts (Ok t) f g h k = ap (λ (w : Walk Standing). record { texts = texts ++ w.texts; outcome = w.outcome }) (k t h)
on-alike texts (Err e) f g h k = refl

module _ (defined : List Reference) (o : OptionsView) (reading : List ℕ → ParserOptions → ReadingView) where
  abbrev plain : Rendering
  plain = rendering o reading

  abbrev told : Rendering
  told = rendering_behind defined o reading

  unit-later : (next : Option EventView) (s : Standing) → EndsLater (flushed plain next s).outcome
  unfolding flushed
  unit-later next s = flush-later s (plain.choice s.document s.pending next) (kept-flushed s.document.flags (chosen (setting_of o s.document.flags reading None) s.document.document s.pending next) (chosen-flushed (setting_of o s.document.flags reading None) s.document.document s.pending next))

  unit-alike : (next : Option EventView) (s : Standing) → IsLater s → flushed told next s ≡ flushed plain next s
  unfolding flushed
  unit-alike next s h = ap (λ c. flush_of s c) (later-alike defined o reading s.document h s.pending next)

  waiting-later : (w : Bool) (next : EventView) (s : Standing) → IsLater s → EndsLater (flushed_or_deferred plain w next s).outcome
  waiting-later true next s h = h
  waiting-later false next s h = unit-later (Some next) s

  waiting-alike : (w : Bool) (next : EventView) (s : Standing) → IsLater s → flushed_or_deferred told w next s ≡ flushed_or_deferred plain w next s
  waiting-alike true next s h = refl
  waiting-alike false next s h = unit-alike (Some next) s h

  due-later : (b : Bool) (next : EventView) (s : Standing) → IsLater s → EndsLater (if b then flushed_or_deferred plain (waits s.pending) next s else record { texts = []; outcome = Ok s }).outcome
  due-later true next s h = waiting-later (waits s.pending) next s h
  due-later false next s h = h

  due-alike : (b : Bool) (next : EventView) (s : Standing) → IsLater s → (if b then flushed_or_deferred told (waits s.pending) next s else record { texts = []; outcome = Ok s }) ≡ (if b then flushed_or_deferred plain (waits s.pending) next s else record { texts = []; outcome = Ok s })
  due-alike true next s h = waiting-alike (waits s.pending) next s h
  due-alike false next s h = refl

  before-later : (next : EventView) (s : Standing) → IsLater s → EndsLater (flushed_before plain next s).outcome
  unfolding flushed_before
  before-later next s h = due-later (is_due s) next s h

  before-alike : (next : EventView) (s : Standing) → IsLater s → flushed_before told next s ≡ flushed_before plain next s
  unfolding flushed_before
  before-alike next s h = due-alike (is_due s) next s h

  advance-later : (e : SourcedEvent) (s : Standing) → IsLater s → EndsLater (advance plain e s).outcome
  unfolding advance
  advance-later e s h = on-later (flushed_before plain (unsourced e) s).texts (flushed_before plain (unsourced e) s).outcome (λ t. joins e t) (before-later (unsourced e) s h) (λ t k. joins-later e t k)

  advance-alike : (e : SourcedEvent) (s : Standing) → IsLater s → advance told e s ≡ advance plain e s
  unfolding advance
  advance-alike e s h = ap (λ (w : Walk Standing). go_on w.texts w.outcome (λ t. joins e t)) (before-alike (unsourced e) s h)

  with-later : (s : Standing) (r : Result (SourcedEvent × ℕ) Error) → IsLater s → EndsLater (advance_with plain s r).outcome
  with-later s (Ok x) h = advance-later x.0 (record s { range_end = x.1 }) h
  with-later s (Err e) h = tt

  with-alike : (s : Standing) (r : Result (SourcedEvent × ℕ) Error) → IsLater s → advance_with told s r ≡ advance_with plain s r
  with-alike s (Ok x) h = advance-alike x.0 (record s { range_end = x.1 }) h
  with-alike s (Err e) h = refl

  step-later : (source : List ℕ) (pair : Pair) (s : Standing) → IsLater s → EndsLater (step plain source pair s).outcome
  unfolding step
  step-later source pair s h = with-later s (resolved source s.range_end pair) h

  step-alike : (source : List ℕ) (pair : Pair) (s : Standing) → IsLater s → step told source pair s ≡ step plain source pair s
  unfolding step
  step-alike source pair s h = with-alike s (resolved source s.range_end pair) h

  -- from a standing after a first unit
  pub walk-alike : (source : List ℕ) (s : Standing) → IsLater s → (p : List Pair) → walk told source s p ≡ walk plain source s p
  walk-alike source s h [] = refl
  walk-alike source s h (x ∷ xs) =
      ap (λ (w : Walk Standing). go_on w.texts w.outcome (λ t. walk told source t xs)) (step-alike source x s h)
      ∙ on-alike (step plain source x s).texts (step plain source x s).outcome (λ t. walk told source t xs) (λ t. walk plain source t xs) (step-later source x s h) (λ t k. walk-alike source t k xs)
