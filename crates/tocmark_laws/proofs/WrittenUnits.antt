-- Each unit with delimiters that is written reads back in its document.
use Rattle.std.proofs.Common.{◌≡◌, ℕ, List, [], ◌∷◌, ◌++◌, Bool, true, false, Option, Some, None, Result, Ok, Err, if◌then◌else◌, refl, ap, sym, ◌∙◌, subst, append-nil}
use Rattle.std.specs.List.{AllByRecursion}
use Rattle.tocmark_event.specs.Forest.{Forest, empty, leaf, node, flat, flat_onto}
use Rattle.tocmark_event.specs.View.{EventView, Start, End, Leaf, SourcedEvent, SourcedLeaf, unsourced, end_of}
use Rattle.tocmark_event.specs.declared.event.TagEnd.{TagEnd}
use Rattle.tocmark_event.specs.declared.event.flags.ParserOptions.{ParserOptions}
use Rattle.tocmark_event.specs.Options.{OptionsView}
use Rattle.tocmark_event.specs.declared.options.Error.{Error}
use Rattle.tocmark_event.specs.declared.options.Error.TheVariants.{UnexpectedEvent}
use Rattle.tocmark_event.specs.Reading.{ReadingView}
use Rattle.tocmark_spelling.specs.Body as body
use Rattle.tocmark_spelling.specs.Page.{Page}
use Rattle.tocmark_spelling.specs.Plan.{Setting}
use Rattle.tocmark_spelling.specs.Spelling.{is_misplaced}
use Rattle.tocmark_write_labels.specs.Document.{DocumentView}
use Rattle.tocmark_write_labels.specs.Units.{labelled}
use Rattle.tocmark_choose.specs.Candidates.{candidates, is_delimiter_block}
use Rattle.tocmark_choose.specs.Choice.{Chosen, choice, document_after, has_standard_markers}
use Rattle.tocmark_choose.specs.Chosen.{chosen}
use Rattle.tocmark_choose.specs.FirstReadBack.{First, IsChosenAmong, IsFirstReadBack, Nothing}
use Rattle.tocmark_choose.specs.Validates.{validates}
use Rattle.tocmark_choose.proofs.FirstReadBack.{checked-chosen, delimiters-checked}
use Rattle.tocmark_laws.specs.Trees.{Part, part_onto, ranged, stop_at, unit_walk, walk_trees, followed_unit}
use Rattle.tocmark_laws.specs.Unexpected.{setting_at}
use Rattle.tocmark_laws.specs.Written.{AreWritten, ReadsBackIfDelimited, Written, ending_unless_refused, last_of, last_unit, last_written, texts_at_end, texts_of, written_as, written_trees, written_unit, written_unless}
use Rattle.tocmark_laws.proofs.Trees.{trees_of, walk_is}
use Rattle.tocmark_laws.proofs.Unexpected.{flat-choice, misplaced-choice}
use Rattle.tocmark_state.specs.Ranges.{Pair, resolved}
use Rattle.tocmark_write_pending.specs.Pending.{nested}
use Rattle.tocmark_state.specs.Walk.{Kept, Rendering, Standing, Walk, advance, advance_with, beginning, ended, ended_at, finished, finished_of, flush_of, flushed, flushed_before, flushed_or_deferred, go_on, handed_text, is_due, joins, script, stay, step, walk, with_event}
use Rattle.tocmark_state.specs.WorkView.{keeping, rendering}

-- ---- the texts of a walk over trees are those of the units

stopped-texts : (refused : List SourcedEvent) (s : Standing) → (stop_at refused s).texts ≡ []
stopped-texts [] s = refl
stopped-texts (e ∷ rest) s = refl

chosen-texts : (kept : Kept) (unit : List SourcedEvent) (next : Option EventView) (r : Result (List ℕ × Kept) Error) (go : Kept → Walk Standing) (others : Kept → List Written)
    → ((k : Kept) → (go k).texts ≡ texts_of (others k))
    → (go_on (flush_of (beginning kept) r).texts (flush_of (beginning kept) r).outcome (λ s. go s.document)).texts ≡ texts_of (written_as kept unit next r others)
chosen-texts kept unit next (Ok x) go others same = ap (λ ts. handed_text x.0 ++ ts) (same x.1)
chosen-texts kept unit next (Err e) go others same = refl

followed-texts : (how : Rendering) (b : Bool) (kept : Kept) (unit : List SourcedEvent) (next : EventView) (waiting : Walk Standing) (go : Kept → Walk Standing) (others : Kept → List Written)
    → waiting.texts ≡ [] → ((k : Kept) → (go k).texts ≡ texts_of (others k))
    → (followed_unit how b kept unit next waiting go).texts ≡ texts_of (written_unless b how kept unit next others)
followed-texts how true kept unit next waiting go others quiet same = quiet
followed-texts how false kept unit next waiting go others quiet same = chosen-texts kept unit (Some next) (how.choice kept unit (Some next)) go others same

unit-texts : (how : Rendering) (kept : Kept) (unit rest : List SourcedEvent) (waiting : Walk Standing) (go : Kept → Walk Standing) (others : Kept → List Written)
    → waiting.texts ≡ [] → ((k : Kept) → (go k).texts ≡ texts_of (others k))
    → (unit_walk how kept unit rest waiting go).texts ≡ texts_of (written_unit how kept unit rest others)
unit-texts how kept unit [] waiting go others quiet same = refl
unit-texts how kept unit (e ∷ rest) waiting go others quiet same = followed-texts how (how.waits unit) kept unit (unsourced e) waiting go others quiet same

pub trees-texts : (how : Rendering) (kept : Kept) (f : Forest SourcedLeaf) (part : Part) (refused : List SourcedEvent)
    → (walk_trees how kept f part refused).texts ≡ texts_of (written_trees how kept f part refused)
trees-texts how kept empty part refused = stopped-texts refused _
trees-texts how kept (leaf l f) part refused =
    unit-texts how kept (Leaf l ∷ []) (flat_onto f (part_onto part refused)) _ (λ k. walk_trees how k f part refused) (λ k. written_trees how k f part refused)
    (stopped-texts refused _) (λ k. trees-texts how k f part refused)
trees-texts how kept (node t kids f) part refused =
    unit-texts how kept (Start t ∷ flat_onto kids (End (end_of t) ∷ [])) (flat_onto f (part_onto part refused)) _ (λ k. walk_trees how k f part refused) (λ k. written_trees how k f part refused)
    (stopped-texts refused _) (λ k. trees-texts how k f part refused)

go-texts : (ts : List (List ℕ)) (o : Result Standing Error) (f : Standing → Result Standing Error) → (go_on ts o (λ s. record { texts = []; outcome = f s })).texts ≡ ts
go-texts ts (Ok s) f = append-nil ts
go-texts ts (Err e) f = refl

-- the texts of a walk over pairs are those of its units
pub pairs-written : (how : Rendering) (source : List ℕ) (kept : Kept) (p : List Pair) → (units : List Written) × AreWritten how source kept p units
pairs-written how source kept p =
    let trees = trees_of (ranged source 0 p).events in
    let w = walk_trees how kept trees.whole trees.part trees.refused in (
      written_trees how kept trees.whole trees.part trees.refused,
      record {
        trees = trees;
        units_are = refl;
        texts_are = ap (λ (x : Walk Standing). x.texts) (walk_is how source kept p trees) ∙ go-texts w.texts w.outcome _ ∙ trees-texts how kept trees.whole trees.part trees.refused;
      },
    )

-- ---- a unit with delimiters that is written reads back

no-error : (e : Error) (x : List ℕ × DocumentView) (r : Chosen) → r ≡ Ok x → r ≡ Err e → ⊥
no-error e x r h k = absurd (cc)

same-answer : (x y : List ℕ × DocumentView) (r : Chosen) → r ≡ Ok x → r ≡ Ok y → x ≡ y
same-answer x y r h k = cc

-- a forest of a unit that is chosen has no misplaced node
placed : (s : Setting) (d : DocumentView) (f : body.Trees) (next : Option EventView) (x : List ℕ × DocumentView) → choice s d f next ≡ Ok x → is_misplaced s [] f ≡ false
placed s d f next x h = by (is_misplaced s [] f) refl
  where
    by : (b : Bool) → is_misplaced s [] f ≡ b → is_misplaced s [] f ≡ false
    by true e = absurd (no-error UnexpectedEvent x (choice s d f next) h (misplaced-choice s d f next e))
    by false e = e

-- the page that was chosen
module _ (s : Setting) (d : DocumentView) (unit : List SourcedEvent) (next : Option EventView) (f : body.Trees) (x : List ℕ × DocumentView) where
  abbrev l : Setting
  l = labelled s d unit next

  abbrev IsChosenFirst : Type 0
  IsChosenFirst = (p : Page) × (x ≡ (p.sheet.text, document_after l d p)) × IsFirstReadBack l d f next (candidates s.options f) p

  by-choice : choice l d f next ≡ Ok x → IsChosenAmong l d f next (candidates s.options f) (choice l d f next) → IsChosenFirst
  by-choice is_ok (First p first e) = (p, same-answer x (p.sheet.text, document_after l d p) (choice l d f next) is_ok e, first)
  by-choice is_ok (Nothing none e) = absurd (no-error _ x (choice l d f next) is_ok e)

  pub delimited-chosen : has_standard_markers s.options ≡ true → validates s.options s.flags ≡ true → flat f ≡ unit → is_delimiter_block f ≡ true → chosen s d unit next ≡ Ok x → IsChosenFirst
  delimited-chosen standard accepts same delimited h =
      let is_ok : choice l d f next ≡ Ok x = sym (flat-choice s d f unit next same) ∙ h in
      by-choice is_ok (checked-chosen l d f next standard accepts (delimiters-checked l d f next delimited) (placed l d f next x is_ok))

-- ---- so it is of each unit that a walk writes

module _ (options : OptionsView) (reading : List ℕ → ParserOptions → ReadingView) (flags : ParserOptions) (standard : has_standard_markers options ≡ true) (accepts : validates options flags ≡ true) where
  abbrev how : Rendering
  how = rendering options reading

  abbrev Reads : Written → Type 0
  Reads w = ReadsBackIfDelimited options reading w

  -- a unit that was written, by what was chosen
  written-reads : (kept : Kept) (unit : List SourcedEvent) (next : Option EventView) (r : Chosen) (x : List ℕ × Kept) → kept.flags ≡ flags
      → chosen (setting_at options reading kept) kept.document unit next ≡ r → keeping kept.flags r ≡ Ok x
      → (x.1.flags ≡ flags) × Reads (record { unit = unit; next = next; before = kept; text = x.0; after = x.1 })
  written-reads kept unit next (Err e) x same h k = absurd (cc)
  written-reads kept unit next (Ok y) x same h k =
      let parts : (y.0, record { flags = kept.flags; document = y.1 }) ≡ x = cc in
      let s = setting_at options reading kept in
      let accepts_there : validates options kept.flags ≡ true = ap (validates options) same ∙ accepts in (
        ap (λ (z : List ℕ × Kept). z.1.flags) (sym parts) ∙ same,
        λ f is delimited.
            let found = delimited-chosen s kept.document unit next f y standard accepts_there is delimited h in
            record {
              page = found.0;
              text_is = ap (λ (z : List ℕ × Kept). z.0) (sym parts) ∙ ap (λ (z : List ℕ × DocumentView). z.0) found.1;
              after_is = ap (λ (z : List ℕ × Kept). z.1.document) (sym parts) ∙ ap (λ (z : List ℕ × DocumentView). z.1) found.1;
              first = found.2;
            },
      )

  as-reads : (kept : Kept) (unit : List SourcedEvent) (next : Option EventView) (r : Result (List ℕ × Kept) Error) (others : Kept → List Written)
      → kept.flags ≡ flags → how.choice kept unit next ≡ r → ((k : Kept) → k.flags ≡ flags → AllByRecursion Reads (others k))
      → AllByRecursion Reads (written_as kept unit next r others)
  as-reads kept unit next (Err e) others same h rest = tt
  as-reads kept unit next (Ok x) others same h rest =
      let it = written-reads kept unit next (chosen (setting_at options reading kept) kept.document unit next) x same refl h in
      (it.1, rest x.1 it.0)

  unless-reads : (b : Bool) (kept : Kept) (unit : List SourcedEvent) (next : EventView) (others : Kept → List Written)
      → kept.flags ≡ flags → ((k : Kept) → k.flags ≡ flags → AllByRecursion Reads (others k)) → AllByRecursion Reads (written_unless b how kept unit next others)
  unless-reads true kept unit next others same rest = tt
  unless-reads false kept unit next others same rest = as-reads kept unit (Some next) (how.choice kept unit (Some next)) others same refl rest

  unit-reads : (kept : Kept) (unit after : List SourcedEvent) (others : Kept → List Written)
      → kept.flags ≡ flags → ((k : Kept) → k.flags ≡ flags → AllByRecursion Reads (others k)) → AllByRecursion Reads (written_unit how kept unit after others)
  unit-reads kept unit [] others same rest = tt
  unit-reads kept unit (e ∷ after) others same rest = unless-reads (how.waits unit) kept unit (unsourced e) others same rest

  -- each unit that the walk over trees writes
  pub trees-read : (kept : Kept) (f : Forest SourcedLeaf) (part : Part) (refused : List SourcedEvent) → kept.flags ≡ flags → AllByRecursion Reads (written_trees how kept f part refused)
  trees-read kept empty part refused same = tt
  trees-read kept (leaf l f) part refused same =
      unit-reads kept (Leaf l ∷ []) (flat_onto f (part_onto part refused)) (λ k. written_trees how k f part refused) same (λ k e. trees-read k f part refused e)
  trees-read kept (node t kids f) part refused same =
      unit-reads kept (Start t ∷ flat_onto kids (End (end_of t) ∷ [])) (flat_onto f (part_onto part refused)) (λ k. written_trees how k f part refused) same (λ k e. trees-read k f part refused e)

  -- each unit that the walk over pairs writes
  pub pairs-read : (source : List ℕ) (kept : Kept) (p : List Pair) → kept.flags ≡ flags → (units : List Written) × AreWritten how source kept p units × AllByRecursion Reads units
  pairs-read source kept p same =
      let w = pairs-written how source kept p in
      (w.0, w.1, subst (AllByRecursion Reads) (sym w.1.units_are) (trees-read kept w.1.trees.whole w.1.trees.part w.1.trees.refused same))

  last-unit-reads : (kept : Kept) (unit : List SourcedEvent) → kept.flags ≡ flags → AllByRecursion Reads (last_unit how kept unit)
  last-unit-reads kept [] same = tt
  last-unit-reads kept (e ∷ es) same = as-reads kept (e ∷ es) None (how.choice kept (e ∷ es) None) (λ k. []) same refl (λ k h. tt)

  -- the unit that is written at the end
  pub last-reads : (tags : List TagEnd) (at : Standing) → at.document.flags ≡ flags → AllByRecursion Reads (last_written how tags at)
  last-reads [] at same = last-unit-reads at.document at.pending same
  last-reads (o ∷ os) at same = tt

-- ---- the flags stay as they are

same-ok : (s t : Standing) (r : Result Standing Error) → r ≡ Ok s → r ≡ Ok t → s ≡ t
same-ok s t r h k = cc

abbrev flags_of : Standing → ParserOptions
flags_of s = s.document.flags

-- where a walk goes on, its first part is somewhere
went-on : (ts : List (List ℕ)) (o : Result Standing Error) (f : Standing → Walk Standing) (t : Standing) → (go_on ts o f).outcome ≡ Ok t → (s : Standing) × (o ≡ Ok s) × ((f s).outcome ≡ Ok t)
went-on ts (Ok s) f t h = (s, refl, h)
went-on ts (Err e) f t h = absurd (cc)

module _ (options : OptionsView) (reading : List ℕ → ParserOptions → ReadingView) (source : List ℕ) where
  abbrev written_how : Rendering
  written_how = rendering options reading

  kept-flags : (flags : ParserOptions) (r : Chosen) (x : List ℕ × Kept) → keeping flags r ≡ Ok x → x.1.flags ≡ flags
  kept-flags flags (Ok y) x h = let parts : (y.0, record { flags = flags; document = y.1 }) ≡ x = cc in ap (λ (z : List ℕ × Kept). z.1.flags) (sym parts)
  kept-flags flags (Err e) x h = absurd (cc)

  flush-flags : (s t : Standing) (r : Result (List ℕ × Kept) Error) → ((x : List ℕ × Kept) → r ≡ Ok x → x.1.flags ≡ flags_of s) → (flush_of s r).outcome ≡ Ok t → flags_of t ≡ flags_of s
  flush-flags s t (Ok x) same h = ap flags_of (sym (same-ok (record s { pending = []; document = x.1 }) t (flush_of s (Ok x)).outcome refl h)) ∙ same x refl
  flush-flags s t (Err e) same h = absurd (cc)

  due-flags : (e : EventView) (s t : Standing) (b w : Bool) → (if b then flushed_or_deferred written_how w e s else stay s).outcome ≡ Ok t → flags_of t ≡ flags_of s
  unfolding flushed
  due-flags e s t true true h = ap flags_of (sym (same-ok (record s { is_deferred = true }) t (Ok (record s { is_deferred = true })) refl h))
  due-flags e s t true false h =
      flush-flags s t (written_how.choice s.document s.pending (Some e))
      (λ x k. kept-flags (flags_of s) (chosen (setting_at options reading s.document) s.document.document s.pending (Some e)) x k) h
  due-flags e s t false w h = ap flags_of (sym (same-ok s t (Ok s) refl h))

  before-flags : (e : EventView) (s t : Standing) → (flushed_before written_how e s).outcome ≡ Ok t → flags_of t ≡ flags_of s
  unfolding flushed_before
  before-flags e s t h = due-flags e s t (is_due s) (written_how.waits s.pending) h

  event-flags : (e : SourcedEvent) (s t : Standing) (r : Result (List TagEnd) Error) → (with_event s e r).outcome ≡ Ok t → flags_of t ≡ flags_of s
  event-flags e s t (Ok os) h = ap flags_of (sym (same-ok (record s { pending = s.pending ++ e ∷ []; open_tags = os }) t (with_event s e (Ok os)).outcome refl h))
  event-flags e s t (Err x) h = absurd (cc)

  joins-flags : (e : SourcedEvent) (s t : Standing) → (joins e s).outcome ≡ Ok t → flags_of t ≡ flags_of s
  unfolding joins
  joins-flags e s t h = event-flags e s t (nested s.open_tags (unsourced e)) h

  advance-flags : (e : SourcedEvent) (s t : Standing) → (advance written_how e s).outcome ≡ Ok t → flags_of t ≡ flags_of s
  unfolding advance
  advance-flags e s t h =
      let parts = went-on (flushed_before written_how (unsourced e) s).texts (flushed_before written_how (unsourced e) s).outcome (λ u. joins e u) t h in
      joins-flags e parts.0 t parts.2 ∙ before-flags (unsourced e) s parts.0 parts.1

  with-flags : (s t : Standing) (r : Result (SourcedEvent × ℕ) Error) → (advance_with written_how s r).outcome ≡ Ok t → flags_of t ≡ flags_of s
  with-flags s t (Ok x) h = advance-flags x.0 (record s { range_end = x.1 }) t h
  with-flags s t (Err e) h = absurd (cc)

  step-flags : (pair : Pair) (s t : Standing) → (step written_how source pair s).outcome ≡ Ok t → flags_of t ≡ flags_of s
  unfolding step
  step-flags pair s t h = with-flags s t (resolved source s.range_end pair) h

  walk-flags : (p : List Pair) (s t : Standing) → (walk written_how source s p).outcome ≡ Ok t → flags_of t ≡ flags_of s
  walk-flags [] s t h = ap flags_of (sym (same-ok s t (Ok s) refl h))
  walk-flags (pair ∷ p) s t h =
      let parts = went-on (step written_how source pair s).texts (step written_how source pair s).outcome (λ u. walk written_how source u p) t h in
      walk-flags p parts.0 t parts.2 ∙ step-flags pair s parts.0 parts.1

-- the last unit of a script
pub end-reads : (options : OptionsView) (reading : List ℕ → ParserOptions → ReadingView) (source : List ℕ) (kept : Kept) (p : List Pair) (at : Standing)
    → has_standard_markers options ≡ true → validates options kept.flags ≡ true → (walk (rendering options reading) source (beginning kept) p).outcome ≡ Ok at
    → AllByRecursion (ReadsBackIfDelimited options reading) (last_written (rendering options reading) at.open_tags at)
end-reads options reading source kept p at standard accepts h =
    last-reads options reading kept.flags standard accepts at.open_tags at (walk-flags options reading source p (beginning kept) at h)

-- ---- the texts of a script are those of its units, and those at its end

unit-ending : (how : Rendering) (kept : Kept) (unit : List SourcedEvent) (r : Result (List ℕ × Kept) Error)
    → (finished_of how unit r).texts ≡ ending_unless_refused how kept (written_as kept unit None r (λ k. [])) (finished_of how unit r).outcome
unit-ending how kept unit (Ok x) = refl
unit-ending how kept unit (Err e) = refl

pending-ending : (how : Rendering) (kept : Kept) (unit : List SourcedEvent) → (finished how unit kept).texts ≡ ending_unless_refused how kept (last_unit how kept unit) (finished how unit kept).outcome
pending-ending how kept [] = refl
pending-ending how kept (e ∷ es) = unit-ending how kept (e ∷ es) (how.choice kept (e ∷ es) None)

tags-ending : (how : Rendering) (at : Standing) (tags : List TagEnd) → (ended_at how tags at).texts ≡ ending_unless_refused how at.document (last_written how tags at) (ended_at how tags at).outcome
tags-ending how at [] = pending-ending how at.document at.pending
tags-ending how at (o ∷ os) = refl

walk-ending : (how : Rendering) (at : Standing) → (ended how at).texts ≡ texts_at_end how (Ok at) (ended how at).outcome
unfolding ended
walk-ending how at = tags-ending how at at.open_tags

script-texts : (how : Rendering) (ts : List (List ℕ)) (o : Result Standing Error) → (go_on ts o (λ t. ended how t)).texts ≡ ts ++ texts_at_end how o (go_on ts o (λ t. ended how t)).outcome
script-texts how ts (Ok at) = ap (λ es. ts ++ es) (walk-ending how at)
script-texts how ts (Err e) = sym (append-nil ts)

of-both : (P : Written → Type 0) (xs ys : List Written) → AllByRecursion P xs → AllByRecursion P ys → AllByRecursion P (xs ++ ys)
of-both P [] ys first second = second
of-both P (x ∷ xs) ys (this, first) second = (this, of-both P xs ys first second)

module _ (options : OptionsView) (reading : List ℕ → ParserOptions → ReadingView) (source : List ℕ) (kept : Kept) (p : List Pair) (standard : has_standard_markers options ≡ true) (accepts : validates options kept.flags ≡ true) where
  abbrev how_written : Rendering
  how_written = rendering options reading

  abbrev whole_walk : Walk Standing
  whole_walk = walk how_written source (beginning kept) p

  last-of-reads : (o : Result Standing Error) → whole_walk.outcome ≡ o → AllByRecursion (ReadsBackIfDelimited options reading) (last_of how_written o)
  last-of-reads (Ok at) h = end-reads options reading source kept p at standard accepts h
  last-of-reads (Err e) h = tt

  pub script-reads : (units : List Written) × AreWritten how_written source kept p units
      × ((script how_written source (beginning kept) p).texts ≡ texts_of units ++ texts_at_end how_written whole_walk.outcome (script how_written source (beginning kept) p).outcome)
      × AllByRecursion (ReadsBackIfDelimited options reading) (units ++ last_of how_written whole_walk.outcome)
  script-reads =
      let found = pairs-read options reading kept.flags standard accepts source kept p refl in (
        found.0,
        found.1,
        script-texts how_written whole_walk.texts whole_walk.outcome
            ∙ ap (λ ts. ts ++ texts_at_end how_written whole_walk.outcome (script how_written source (beginning kept) p).outcome) found.1.texts_are,
        of-both (ReadsBackIfDelimited options reading) found.0 (last_of how_written whole_walk.outcome) found.2 (last-of-reads whole_walk.outcome refl),
      )
