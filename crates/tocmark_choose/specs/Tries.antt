-- What trying some spellings of a unit in order came to.
use Rattle.std.specs.Prelude.{◌≡◌, Bool, true, false, Option, Some, None, Result, Ok, Err, List, [], ◌∷◌, ◌++◌, if◌then◌else◌, map}
use Rattle.tocmark_event.specs.Options.{OptionsView}
use Rattle.tocmark_event.specs.View.{EventView}
use Rattle.tocmark_event.specs.declared.options.Error.{Error}
use Rattle.tocmark_event.specs.declared.options.Error.TheVariants as error
use Rattle.tocmark_spelling.specs.Body.{Trees}
use Rattle.tocmark_spelling.specs.Page.{Page, Site}
use Rattle.tocmark_spelling.specs.Plan.{Setting, Manner, Plan}
use Rattle.tocmark_spelling.specs.Spelling.{is_misplaced}
use Rattle.tocmark_spelling.specs.declared.plan.Layout.{Layout}
use Rattle.tocmark_spelling.specs.declared.plan.Layout.TheVariants.{Runs}
use Rattle.tocmark_spelling.specs.declared.plan.TextSpelling.{TextSpelling}
use Rattle.tocmark_spelling.specs.declared.plan.TextSpelling.TheVariants.{Escaped}
use Rattle.tocmark_choose.specs.Candidates.{escaped_manners, in_manner, pairs_from, preferred_manner, source_manners}
use Rattle.tocmark_write_renderer.specs.WriterOf.{Rendering, page_of, site_of}
use Rattle.tocmark_choose.specs.Choice.{first_that_reads_back}
use Rattle.tocmark_write_labels.specs.Document.{DocumentView}

-- what stays the same while spellings of a unit are tried: the setting, the unit, and the event after it
pub record Asked : Type 0 where
  pub setting : Setting
  pub unit : Trees
  pub next : Option EventView

-- a layout with a way of writing texts
abbrev pub plan_view : Layout × TextSpelling → Plan
plan_view p = record { layout = p.0; text = p.1 }

-- of a unit with delimiters: the preferred spelling, and four by runs
abbrev pub run_manners : OptionsView → List Manner
run_manners o = preferred_manner o ∷ map (λ m. in_manner Runs Escaped m false) (pairs_from o.emphasis_token o.strong_token)

-- those from the source, if some text of the unit is known there
abbrev pub if_source : Bool → OptionsView → Bool → List Manner
if_source has_source o delimiters = if has_source then source_manners o delimiters else []

-- the spellings that are tried: from the source, and escaped for a unit that is checked
abbrev pub manners_for : OptionsView → Bool → Bool → Bool → List Manner
manners_for o has_source delimiters checked = if_source has_source o delimiters ++ escaped_manners o delimiters checked

-- the first of these spellings that reads back
abbrev pub first : Asked → DocumentView → List Manner → Option Page
first q d ms = first_that_reads_back q.setting d q.unit q.next ms

-- the unit has a misplaced node
abbrev pub misplaced : Asked → Bool
misplaced q = is_misplaced q.setting [] q.unit

-- one of these spellings reads back, the renderer came to the page of the first that does, and the mark is where it began
pub record Found (q : Asked) (d : DocumentView) (old : Site) (new : Rendering) (ms : List Manner) : Type 0 where
  pub is_first : first q d ms ≡ Some (page_of new)
  pub marked : new.at_mark ≡ Some old
  pub placed : misplaced q ≡ false

-- where some spelling was tried, no node of the unit is misplaced
abbrev pub PlacedIfTried : Asked → List Manner → Type 0
PlacedIfTried q [] = Unit {0}
PlacedIfTried q (m ∷ ms) = misplaced q ≡ false

-- none of these spellings reads back, and the renderer is where it began
pub record Lost (q : Asked) (d : DocumentView) (old : Site) (new : Rendering) (ms : List Manner) : Type 0 where
  pub none : first q d ms ≡ None
  pub kept : site_of new ≡ old
  pub placed : PlacedIfTried q ms

-- an error of a trial
abbrev pub StopsTrial : Asked → Error → Type 0
StopsTrial q error.OutOfMemory = Unit {0}
StopsTrial q error.UnexpectedEvent = misplaced q ≡ true
StopsTrial q e = ⊥

-- an error stopped the trials, and the renderer is where it began
pub record Stopped (q : Asked) (old : Site) (new : Rendering) (e : Error) : Type 0 where
  pub stops : StopsTrial q e
  pub kept : site_of new ≡ old

-- what trying these spellings in order came to, after a document and from where a renderer was
abbrev pub Tries : {X : Type 0} → Asked → DocumentView → Site → Rendering → List Manner → Result (Option X) Error → Type 0
Tries q d old new ms (Ok (Some x)) = Found q d old new ms
Tries q d old new ms (Ok None) = Lost q d old new ms
Tries q d old new ms (Err e) = Stopped q old new e
