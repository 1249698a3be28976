-- What is written for a unit is what is chosen for it.
use Rattle.std.proofs.Common.{◌≡◌, ◌∙◌, ap, subst, Bool, true, false, Option, Some, None, Result, Ok, Err, List, [], ◌∷◌, arith, length, map, refl}
use Rattle.std.specs.Prelude.{◌==◌, OnErr, is_some}
use Rattle.std.proofs.lemmas.Bool.{false≢true, true≢false}
use Rattle.std.proofs.lemmas.Bool.Decides.{nat_tests}
use Rattle.tocmark_event.specs.View.{EventView, SourcedEvent}
use Rattle.tocmark_event.specs.declared.options.Error.{Error}
use Rattle.tocmark_event.specs.declared.options.Error.TheVariants as error
use Rattle.tocmark_spelling.specs.Body.{Trees}
use Rattle.tocmark_spelling.specs.Page.{Page, Site}
use Rattle.tocmark_spelling.specs.Plan.{Setting}
use Rattle.tocmark_choose.specs.Choice.{choice, document_after}
use Rattle.tocmark_write_labels.specs.Document.{DocumentView}
use Rattle.tocmark_choose.specs.Chosen.{choice_of, chosen}
use Rattle.tocmark_choose.specs.TrialOf.{IsLeft, IsWritten, left_by, or_no_trees}
use Rattle.tocmark_choose.specs.declared.earlier.Earlier.{Earlier}
use Rattle.tocmark_write_labels.specs.Defined.{behind, known_unless}
use Rattle.tocmark_write_renderer.specs.WriterOf.{Rendering, reference_view}
use Rattle.tocmark_write_renderer.specs.declared.parts.Reference as declared
use Rattle.tocmark_write_labels.specs.Units.{labelled}
use Rattle.tocmark_write_pending.specs.Units.{trees_of}
use Rattle.tocmark_choose.specs.DocumentOf.{noted, passed}

-- ---- what a unit leaves

-- a document that noted a unit's labels, and went on after it, is the one after the unit; what is noted asks neither for
-- the trail nor for the line feeds before it
pub passed-noted : (s : Setting) (d : DocumentView) (here : Site) (p : Page) → passed (noted s d p) p ≡ document_after s (record d { trail = here.page.trail; feeds = here.page.sheet.feeds }) p
unfolding document_after
passed-noted s d here p = refl

-- ---- what is chosen for a unit

module _ (s : Setting) (f : Trees) (next : Option EventView) (d : DocumentView) (e : Earlier) (here : Site) (new : Rendering) where
  -- a unit is written as it is chosen after this document, if that leaves the same to it
  pub written-at : (x : DocumentView) → left_by d e here ≡ x → IsWritten s (left_by d e here) here new (choice s (left_by d e here) f next) → IsWritten s x here new (choice s x f next)
  written-at x same h = subst (λ x. IsWritten s x here new (choice s x f next)) same h

  -- or it is refused so
  pub left-at : (fault : Error) (x : DocumentView) → left_by d e here ≡ x → IsLeft here new fault (choice s (left_by d e here) f next) → IsLeft here new fault (choice s x f next)
  left-at fault x same h = subst (λ x. IsLeft here new fault (choice s x f next)) same h

-- ---- definitions that a document has already

known-none : (b : Bool) (d : DocumentView) → known_unless b [] d ≡ d
known-none true d = refl
known-none false d = refl

-- no definitions change nothing
pub behind-none : (ds : List declared.Reference) (d : DocumentView) → ds ≡ [] → behind (map reference_view ds) d ≡ d
behind-none ds d e = ap (λ ds. behind (map reference_view ds) d) e ∙ known-none d.flushed d

pub behind-empty : (ds : List declared.Reference) (d : DocumentView) → (length ds == 0) ≡ true → behind (map reference_view ds) d ≡ d
behind-empty [] d h = known-none d.flushed d
behind-empty (r ∷ ds) d h = absurd (grind (arith, nat_tests))

-- what a document keeps, it keeps where a call fails
pub stays-refused : {T E P : Type 0} (r : Result T E) → P → OnErr r P
stays-refused (Ok x) kept = tt
stays-refused (Err e) kept = kept

-- ---- a unit as its events

module _ (s : Setting) (d : DocumentView) (es : List SourcedEvent) (next : Option EventView) where
  unbalanced : (o : Option Trees) → is_some o ≡ false → choice_of (labelled s d es next) d o next ≡ Err error.UnexpectedEvent
  unbalanced None h = refl
  unbalanced (Some f) h = absurd (true≢false h)

  -- a unit whose events aren't balanced
  pub unbalanced-refused : is_some (trees_of es) ≡ false → chosen s d es next ≡ Err error.UnexpectedEvent
  unfolding chosen
  unbalanced-refused h = unbalanced (trees_of es) h

  balanced : (o : Option Trees) → is_some o ≡ true → choice_of (labelled s d es next) d o next ≡ choice (labelled s d es next) d (or_no_trees o) next
  balanced None some = absurd (false≢true some)
  balanced (Some f) some = refl

  -- any other unit takes the choice of its forest, with its label
  pub balanced-chosen : is_some (trees_of es) ≡ true → chosen s d es next ≡ choice (labelled s d es next) d (or_no_trees (trees_of es)) next
  unfolding chosen
  balanced-chosen some = balanced (trees_of es) some
