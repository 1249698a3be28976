-- What is written depends on the literal labels of earlier texts, and not on these texts.
use Rattle.std.proofs.Common.{◌≡◌, ◌∙◌, sym, ap, subst, refl, ℕ, Bool, true, false, ◌==◌, ◌&&◌, if◌then◌else◌, List, [], ◌∷◌, ◌++◌, length, map, Option, Some, None, Result, Ok, Err}
use Rattle.std.specs.List.{list_any}
use Rattle.tocmark_event.specs.Options.{OptionsView}
use Rattle.tocmark_event.specs.Reading.{ReadingView}
use Rattle.tocmark_event.specs.View.{EventView, SourcedEvent, unsourced}
use Rattle.tocmark_event.specs.declared.event.TagEnd.{TagEnd}
use Rattle.tocmark_event.specs.declared.event.flags.ParserOptions.{ParserOptions}
use Rattle.tocmark_event.specs.declared.options.Error.{Error}
use Rattle.tocmark_event.specs.declared.options.Error.TheVariants.{Unrepresentable}
use Rattle.tocmark_spelling.specs.Body.{Trees}
use Rattle.tocmark_spelling.specs.Page.{Page, Reference}
use Rattle.tocmark_spelling.specs.Plan.{Setting, Manner}
use Rattle.tocmark_spelling.specs.PlanOf.{setting_of}
use Rattle.tocmark_spelling.specs.Spelling.{is_misplaced}
use Rattle.tocmark_write_labels.specs.Defined.{behind, known_unless}
use Rattle.tocmark_write_labels.specs.Document.{DocumentView, bracketed_in, literal_in, with_labels, with_literal}
use Rattle.tocmark_write_labels.specs.Reserved.{free_label, ids_of, reserved_label, used_labels}
use Rattle.tocmark_write_labels.specs.Units.{label_for, labelled}
use Rattle.tocmark_write_pending.specs.Pending.{nested}
use Rattle.tocmark_write_pending.specs.Units.{trees_of, waits}
use Rattle.tocmark_choose.specs.Candidates.{candidates, is_checked, preferred_manner}
use Rattle.tocmark_choose.specs.Choice.{Chosen, accepted, accepted_if, by_markers, choice, definitions_of, document_after, first_or, first_that_reads_back, has_standard_markers, if_read_back, page_read_back, preferred, spelled, unless_misplaced}
use Rattle.tocmark_choose.specs.Chosen.{choice_of, chosen}
use Rattle.tocmark_choose.specs.ReadsBack.{reads_back}
use Rattle.tocmark_choose.specs.Validates.{validates}
use Rattle.tocmark_state.specs.Ranges.{Pair, resolved}
use Rattle.tocmark_state.specs.Walk.{Done, Kept, Rendering, Standing, Walk, advance, advance_with, ended, ended_at, finished, finished_of, flush_of, flushed, flushed_before, flushed_or_deferred, go_on, is_due, joins, script, stay, step, walk, with_event}
use Rattle.tocmark_state.specs.WorkView.{keeping, rendering_behind}
use Rattle.tocmark_laws.specs.LiteralLabels.{kept_with, standing_with}

-- ---- the choice for a unit

abbrev texts_with : List (List ℕ) → DocumentView → DocumentView
texts_with texts d = record d { bracketed = texts }

-- a choice that leaves these texts, and its own after them
abbrev retexted : List (List ℕ) → Chosen → Chosen
retexted texts (Ok x) = Ok (x.0, texts_with (bracketed_in texts x.0) x.1)
retexted texts (Err e) = Err e

module _ (s : Setting) (d : DocumentView) (next : Option EventView) (texts : List (List ℕ)) where
  abbrev other : DocumentView
  other = texts_with texts d

  accepted_alike : (p : Page) → accepted s other p ≡ retexted texts (accepted s d p)
  unfolding document_after
  accepted_alike p = refl

  if_alike : (p : Option Page) → accepted_if s other p ≡ retexted texts (accepted_if s d p)
  if_alike None = refl
  if_alike (Some p) = accepted_alike p

  module _ (f : Trees) where
    spelled_alike : (m : Manner) → spelled s other f next m ≡ spelled s d f next m
    unfolding spelled
    spelled_alike m = refl

    preferred_alike : preferred s other f next ≡ retexted texts (preferred s d f next)
    preferred_alike = ap (accepted_if s other) (spelled_alike (preferred_manner s.options)) ∙ if_alike (spelled s d f next (preferred_manner s.options))

    back_alike : (defs text : List ℕ) → reads_back s other f defs text ≡ reads_back s d f defs text
    unfolding reads_back
    back_alike defs text = refl

    page_alike : (p : Option Page) → page_read_back s other f p ≡ page_read_back s d f p
    page_alike None = refl
    page_alike (Some p) = ap (λ b. if_read_back b p) (back_alike (definitions_of p) p.sheet.text)

    abbrev or_else : Option Page → Option Page → Option Page
    or_else rest (Some p) = Some p
    or_else rest None = rest

    first_is : (e : DocumentView) (m : Manner) (ms : List Manner) → first_that_reads_back s e f next (m ∷ ms) ≡ or_else (first_that_reads_back s e f next ms) (page_read_back s e f (spelled s e f next m))
    unfolding first_that_reads_back
    first_is e m ms = by_page (page_read_back s e f (spelled s e f next m))
      where
        by_page : (p : Option Page) → elim p as (λ _. Option Page) [ Some q ↦ Some q | None ↦ first_that_reads_back s e f next ms ] ≡ or_else (first_that_reads_back s e f next ms) p
        by_page (Some p) = refl
        by_page None = refl

    first_none : (e : DocumentView) → first_that_reads_back s e f next [] ≡ None
    unfolding first_that_reads_back
    first_none e = refl

    first_alike : (ms : List Manner) → first_that_reads_back s other f next ms ≡ first_that_reads_back s d f next ms
    first_alike [] = first_none other ∙ sym (first_none d)
    first_alike (m ∷ ms) =
        first_is other m ms
        ∙ ap (λ (rest : Option Page). or_else rest (page_read_back s other f (spelled s other f next m))) (first_alike ms)
        ∙ ap (λ (p : Option Page). or_else (first_that_reads_back s d f next ms) (page_read_back s other f p)) (spelled_alike m)
        ∙ ap (or_else (first_that_reads_back s d f next ms)) (page_alike (spelled s d f next m))
        ∙ sym (first_is d m ms)

    checked_alike : (b : Bool) → elim b as (λ _. Chosen) [ true ↦ Err Unrepresentable | false ↦ preferred s other f next ] ≡ retexted texts (elim b as (λ _. Chosen) [ true ↦ Err Unrepresentable | false ↦ preferred s d f next ])
    checked_alike true = refl
    checked_alike false = preferred_alike

    or_alike : (p : Option Page) → first_or s other f next p ≡ retexted texts (first_or s d f next p)
    or_alike None = checked_alike (is_checked s.options f && validates s.options s.flags)
    or_alike (Some p) = accepted_alike p

    marked_alike : (b : Bool) → by_markers b s other f next ≡ retexted texts (by_markers b s d f next)
    marked_alike true = ap (first_or s other f next) (first_alike (candidates s.options f)) ∙ or_alike (first_that_reads_back s d f next (candidates s.options f))
    marked_alike false = preferred_alike

    placed_alike : (b : Bool) → unless_misplaced b s other f next ≡ retexted texts (unless_misplaced b s d f next)
    placed_alike true = refl
    placed_alike false = marked_alike (has_standard_markers s.options)

    choice_alike : choice s other f next ≡ retexted texts (choice s d f next)
    unfolding choice
    choice_alike = placed_alike (is_misplaced s [] f)

  trees_alike : (f : Option Trees) → choice_of s other f next ≡ retexted texts (choice_of s d f next)
  trees_alike None = refl
  trees_alike (Some f) = choice_alike f

-- ---- the label of a unit

module _ (s : Setting) (d : DocumentView) (unit : List SourcedEvent) (texts : List (List ℕ)) (same : literal_in s.reading s.flags texts ≡ literal_in s.reading s.flags d.bracketed) where
  used_alike : used_labels s (texts_with texts d) unit ≡ used_labels s d unit
  used_alike = ap (λ (xs : List (List ℕ)). d.known ++ xs ++ ids_of unit) same

  reserved_alike : reserved_label s (texts_with texts d) unit ≡ reserved_label s d unit
  unfolding reserved_label
  reserved_alike = ap (λ (used : List (List ℕ)). free_label (length used) 1 used) used_alike

  label_alike : (next : Option EventView) → label_for s (texts_with texts d) unit next ≡ label_for s d unit next
  label_alike None = ap (λ (l : List ℕ). if waits unit then Some l else None) reserved_alike
  label_alike (Some e) = refl

  chosen_alike : (next : Option EventView) → chosen s (texts_with texts d) unit next ≡ retexted texts (chosen s d unit next)
  unfolding chosen
  chosen_alike next =
      ap (λ (l : Option (List ℕ)). choice_of (record s { label = l }) (texts_with texts d) (trees_of unit) next) (label_alike next)
      ∙ trees_alike (labelled s d unit next) d next texts (trees_of unit)

-- ---- the literal labels of one more text

literal_behind : (reading : List ℕ → ParserOptions → ReadingView) (flags : ParserOptions) (labels ts : List (List ℕ)) (text : List ℕ) → with_literal reading flags labels (ts ++ text ∷ []) ≡ with_labels (with_literal reading flags labels ts) (reading text flags).unresolved
literal_behind reading flags labels [] text = refl
literal_behind reading flags labels (t ∷ ts) text = literal_behind reading flags (with_labels labels (reading t flags).unresolved) ts text

one_more : (reading : List ℕ → ParserOptions → ReadingView) (flags : ParserOptions) (ts us : List (List ℕ)) (text : List ℕ) → literal_in reading flags ts ≡ literal_in reading flags us → literal_in reading flags (bracketed_in ts text) ≡ literal_in reading flags (bracketed_in us text)
one_more reading flags ts us text h = by_test (list_any (λ b. b == 91) text)
  where
    by_test : (b : Bool) → literal_in reading flags (if b then ts ++ text ∷ [] else ts) ≡ literal_in reading flags (if b then us ++ text ∷ [] else us)
    by_test true =
        literal_behind reading flags [] ts text
        ∙ ap (λ (ls : List (List ℕ)). with_labels ls (reading text flags).unresolved) h
        ∙ sym (literal_behind reading flags [] us text)
    by_test false = h

from_ok : (y : List ℕ × DocumentView) (ts : List (List ℕ)) (r : Chosen) → r ≡ Ok y → r ≡ Ok (y.0, texts_with ts y.1) → y.1.bracketed ≡ ts
from_ok y ts r h k = let same : y ≡ (y.0, texts_with ts y.1) = cc in ap (λ (z : List ℕ × DocumentView). z.1.bracketed) same

-- a choice leaves the texts of its document, and its own after them
left_texts : (s : Setting) (d : DocumentView) (unit : List SourcedEvent) (next : Option EventView) (x : List ℕ × DocumentView) → chosen s d unit next ≡ Ok x → x.1.bracketed ≡ bracketed_in d.bracketed x.0
left_texts s d unit next x h = from_ok x (bracketed_in d.bracketed x.0) (chosen s d unit next) h (chosen_alike s d unit d.bracketed refl next ∙ ap (retexted d.bracketed) h)

-- ---- the walk

module _ (defined : List Reference) (options : OptionsView) (reading : List ℕ → ParserOptions → ReadingView) where
  abbrev how : Rendering
  how = rendering_behind defined options reading

  -- two standings alike but for texts with the same literal labels
  abbrev AreAlike : Standing → Standing → Type 0
  AreAlike t s = (texts : List (List ℕ)) × (t ≡ standing_with texts s) × (literal_in reading s.document.flags texts ≡ literal_in reading s.document.flags s.document.document.bracketed)

  abbrev EndAlike : Result Standing Error → Result Standing Error → Type 0
  EndAlike (Ok t) (Ok s) = AreAlike t s
  EndAlike (Ok t) (Err e) = ⊥
  EndAlike (Err e) (Ok s) = ⊥
  EndAlike (Err e) (Err x) = e ≡ x

  abbrev GoAlike : Walk Standing → Walk Standing → Type 0
  GoAlike v w = (v.texts ≡ w.texts) × EndAlike v.outcome w.outcome

  go_alike : (ts us : List (List ℕ)) (o r : Result Standing Error) (f : Standing → Walk Standing) → ts ≡ us → EndAlike o r → ((t s : Standing) → AreAlike t s → GoAlike (f t) (f s)) → GoAlike (go_on ts o f) (go_on us r f)
  go_alike ts us (Ok t) (Ok s) f e h k = let more = k t s h in (ap (λ (xs : List (List ℕ)). xs ++ (f t).texts) e ∙ ap (λ (xs : List (List ℕ)). us ++ xs) (more.0), more.1)
  go_alike ts us (Ok t) (Err x) f e h k = absurd h
  go_alike ts us (Err x) (Ok s) f e h k = absurd h
  go_alike ts us (Err x) (Err y) f e h k = (e, h)

  done_alike : (ts us : List (List ℕ)) (o r : Result Standing Error) (f : Standing → Walk Done) → ts ≡ us → EndAlike o r → ((t s : Standing) → AreAlike t s → f t ≡ f s) → go_on ts o f ≡ go_on us r f
  done_alike ts us (Ok t) (Ok s) f e h k = ap (λ (xs : List (List ℕ)). go_on xs (Ok t) f) e ∙ ap (λ (w : Walk Done). (let v : Walk Done = record { texts = us ++ w.texts; outcome = w.outcome } in v)) (k t s h)
  done_alike ts us (Ok t) (Err x) f e h k = absurd h
  done_alike ts us (Err x) (Ok s) f e h k = absurd h
  done_alike ts us (Err x) (Err y) f e h k = ap (λ (xs : List (List ℕ)). go_on xs (Err x) f) e ∙ ap (λ z. go_on us (Err z) f) h

  -- a document after which a unit is written
  known_with : (b : Bool) (labels texts : List (List ℕ)) (d : DocumentView) → known_unless b labels (texts_with texts d) ≡ texts_with texts (known_unless b labels d)
  known_with true labels texts d = refl
  known_with false labels texts d = refl

  known_texts : (b : Bool) (labels : List (List ℕ)) (d : DocumentView) → (known_unless b labels d).bracketed ≡ d.bracketed
  known_texts true labels d = refl
  known_texts false labels d = refl

  abbrev labels_of : List (List ℕ)
  labels_of = map (λ (r : Reference). r.label) defined

  abbrev setting : ParserOptions → Setting
  setting flags = setting_of options flags reading None

  -- the choice after the definitions
  told_alike : (s : Standing) (texts : List (List ℕ)) (next : Option EventView) → literal_in reading s.document.flags texts ≡ literal_in reading s.document.flags s.document.document.bracketed → how.choice (kept_with texts s.document) s.pending next ≡ keeping s.document.flags (retexted texts (chosen (setting s.document.flags) (behind defined s.document.document) s.pending next))
  told_alike s texts next h =
      let flags : ParserOptions = s.document.flags in
      let d : DocumentView = s.document.document in
      let seen : DocumentView = behind defined d in
      ap (λ (x : DocumentView). keeping flags (chosen (setting flags) x s.pending next)) (known_with d.flushed labels_of texts d)
      ∙ ap (keeping flags) (chosen_alike (setting flags) seen s.pending texts (h ∙ ap (literal_in reading flags) (sym (known_texts d.flushed labels_of d))) next)

  flush_alike : (s : Standing) (texts : List (List ℕ)) (c : Chosen) → ((x : List ℕ × DocumentView) → c ≡ Ok x → literal_in reading s.document.flags (bracketed_in texts x.0) ≡ literal_in reading s.document.flags x.1.bracketed) → GoAlike (flush_of (standing_with texts s) (keeping s.document.flags (retexted texts c))) (flush_of s (keeping s.document.flags c))
  flush_alike s texts (Ok x) h = (refl, (bracketed_in texts x.0, refl, h x refl))
  flush_alike s texts (Err e) h = (refl, refl)

  unit_alike : (next : Option EventView) (s : Standing) (texts : List (List ℕ)) → literal_in reading s.document.flags texts ≡ literal_in reading s.document.flags s.document.document.bracketed → GoAlike (flushed how next (standing_with texts s)) (flushed how next s)
  unfolding flushed
  unit_alike next s texts h =
      let flags : ParserOptions = s.document.flags in
      let d : DocumentView = s.document.document in
      let seen : DocumentView = behind defined d in
      let c : Chosen = chosen (setting flags) seen s.pending next in
      let after : (x : List ℕ × DocumentView) → c ≡ Ok x → literal_in reading flags (bracketed_in texts x.0) ≡ literal_in reading flags x.1.bracketed =
      λ x e. one_more reading flags texts d.bracketed x.0 h
      ∙ ap (λ (ts : List (List ℕ)). literal_in reading flags (bracketed_in ts x.0)) (sym (known_texts d.flushed labels_of d))
      ∙ ap (literal_in reading flags) (sym (left_texts (setting flags) seen s.pending next x e))
      in
      subst (λ (r : Result (List ℕ × Kept) Error). GoAlike (flush_of (standing_with texts s) r) (flush_of s (keeping flags c))) (sym (told_alike s texts next h)) (flush_alike s texts c after)

  waiting_alike : (w : Bool) (next : EventView) (s : Standing) (texts : List (List ℕ)) → literal_in reading s.document.flags texts ≡ literal_in reading s.document.flags s.document.document.bracketed → GoAlike (flushed_or_deferred how w next (standing_with texts s)) (flushed_or_deferred how w next s)
  waiting_alike true next s texts h = (refl, (texts, refl, h))
  waiting_alike false next s texts h = unit_alike (Some next) s texts h

  due_alike : (b : Bool) (next : EventView) (s : Standing) (texts : List (List ℕ)) → literal_in reading s.document.flags texts ≡ literal_in reading s.document.flags s.document.document.bracketed → GoAlike (if b then flushed_or_deferred how (waits s.pending) next (standing_with texts s) else stay (standing_with texts s)) (if b then flushed_or_deferred how (waits s.pending) next s else stay s)
  due_alike true next s texts h = waiting_alike (waits s.pending) next s texts h
  due_alike false next s texts h = (refl, (texts, refl, h))

  before_alike : (next : EventView) (s : Standing) (texts : List (List ℕ)) → literal_in reading s.document.flags texts ≡ literal_in reading s.document.flags s.document.document.bracketed → GoAlike (flushed_before how next (standing_with texts s)) (flushed_before how next s)
  unfolding flushed_before
  before_alike next s texts h = due_alike (is_due s) next s texts h

  event_alike : (e : SourcedEvent) (s : Standing) (texts : List (List ℕ)) (r : Result (List TagEnd) Error) → literal_in reading s.document.flags texts ≡ literal_in reading s.document.flags s.document.document.bracketed → GoAlike (with_event (standing_with texts s) e r) (with_event s e r)
  event_alike e s texts (Ok os) h = (refl, (texts, refl, h))
  event_alike e s texts (Err x) h = (refl, refl)

  joins_alike : (e : SourcedEvent) (t s : Standing) → AreAlike t s → GoAlike (joins e t) (joins e s)
  unfolding joins
  joins_alike e t s (texts, same, h) = subst (λ (u : Standing). GoAlike (with_event u e (nested u.open_tags (unsourced e))) (with_event s e (nested s.open_tags (unsourced e)))) (sym same) (event_alike e s texts (nested s.open_tags (unsourced e)) h)

  advance_alike : (e : SourcedEvent) (s : Standing) (texts : List (List ℕ)) → literal_in reading s.document.flags texts ≡ literal_in reading s.document.flags s.document.document.bracketed → GoAlike (advance how e (standing_with texts s)) (advance how e s)
  unfolding advance
  advance_alike e s texts h =
      let before = before_alike (unsourced e) s texts h in
      go_alike (flushed_before how (unsourced e) (standing_with texts s)).texts (flushed_before how (unsourced e) s).texts (flushed_before how (unsourced e) (standing_with texts s)).outcome (flushed_before how (unsourced e) s).outcome (λ t. joins e t) (before.0) (before.1) (λ t u k. joins_alike e t u k)

  with_alike : (s : Standing) (texts : List (List ℕ)) (r : Result (SourcedEvent × ℕ) Error) → literal_in reading s.document.flags texts ≡ literal_in reading s.document.flags s.document.document.bracketed → GoAlike (advance_with how (standing_with texts s) r) (advance_with how s r)
  with_alike s texts (Ok x) h = advance_alike x.0 (record s { range_end = x.1 }) texts h
  with_alike s texts (Err e) h = (refl, refl)

  step_alike : (source : List ℕ) (pair : Pair) (s : Standing) (texts : List (List ℕ)) → literal_in reading s.document.flags texts ≡ literal_in reading s.document.flags s.document.document.bracketed → GoAlike (step how source pair (standing_with texts s)) (step how source pair s)
  unfolding step
  step_alike source pair s texts h = with_alike s texts (resolved source s.range_end pair) h

  walk_alike : (source : List ℕ) (p : List Pair) (t s : Standing) → AreAlike t s → GoAlike (walk how source t p) (walk how source s p)
  walk_alike source [] t s h = (refl, h)
  walk_alike source (x ∷ xs) t s (texts, same, h) =
      let one = step_alike source x s texts h in
      subst (λ (u : Standing). GoAlike (walk how source u (x ∷ xs)) (walk how source s (x ∷ xs))) (sym same)
      (go_alike (step how source x (standing_with texts s)).texts (step how source x s).texts (step how source x (standing_with texts s)).outcome (step how source x s).outcome (λ u. walk how source u xs) (one.0) (one.1) (λ u v k. walk_alike source xs u v k))

  -- ---- the end

  of_alike : (unit : List SourcedEvent) (flags : ParserOptions) (texts : List (List ℕ)) (c : Chosen) → finished_of how unit (keeping flags (retexted texts c)) ≡ finished_of how unit (keeping flags c)
  of_alike unit flags texts (Ok x) = refl
  of_alike unit flags texts (Err e) = refl

  finished_alike : (unit : List SourcedEvent) (s : Standing) (texts : List (List ℕ)) → literal_in reading s.document.flags texts ≡ literal_in reading s.document.flags s.document.document.bracketed → finished how unit (kept_with texts s.document) ≡ finished how unit s.document
  finished_alike [] s texts h = refl
  finished_alike (x ∷ xs) s texts h =
      ap (finished_of how (x ∷ xs)) (told_alike (record s { pending = x ∷ xs }) texts None h)
      ∙ of_alike (x ∷ xs) s.document.flags texts (chosen (setting s.document.flags) (behind defined s.document.document) (x ∷ xs) None)

  tags_alike : (os : List TagEnd) (s : Standing) (texts : List (List ℕ)) → literal_in reading s.document.flags texts ≡ literal_in reading s.document.flags s.document.document.bracketed → ended_at how os (standing_with texts s) ≡ ended_at how os s
  tags_alike [] s texts h = finished_alike s.pending s texts h
  tags_alike (o ∷ os) s texts h = refl

  end_alike : (t s : Standing) → AreAlike t s → ended how t ≡ ended how s
  unfolding ended
  end_alike t s (texts, same, h) = ap (λ (u : Standing). ended_at how u.open_tags u) same ∙ tags_alike s.open_tags s texts h

  pub script_alike : (source : List ℕ) (s : Standing) (texts : List (List ℕ)) (p : List Pair) → literal_in reading s.document.flags texts ≡ literal_in reading s.document.flags s.document.document.bracketed → script how source (standing_with texts s) p ≡ script how source s p
  script_alike source s texts p h =
      let both = walk_alike source p (standing_with texts s) s (texts, refl, h) in
      done_alike (walk how source (standing_with texts s) p).texts (walk how source s p).texts (walk how source (standing_with texts s) p).outcome (walk how source s p).outcome (λ t. ended how t) (both.0) (both.1) end_alike
