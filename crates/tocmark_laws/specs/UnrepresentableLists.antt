-- Why a list of events can't be represented, down to the unit.
use Rattle.std.specs.Prelude.{◌≡◌, ◌++◌, ℕ, true, false, Option, Some, None, List, [], ◌∷◌, Ok}
use Rattle.tocmark_event.specs.Forest.{flat}
use Rattle.tocmark_event.specs.View.{EventView, SourcedEvent}
use Rattle.tocmark_event.specs.declared.event.flags.ParserOptions.{ParserOptions}
use Rattle.tocmark_event.specs.Options.{OptionsView}
use Rattle.tocmark_event.specs.Reading.{ReadingView}
use Rattle.tocmark_spelling.specs.Body.{Trees}
use Rattle.tocmark_spelling.specs.Plan.{Setting}
use Rattle.tocmark_write_labels.specs.Document.{DocumentView}
use Rattle.tocmark_write_labels.specs.Units.{labelled}
use Rattle.tocmark_choose.specs.Unrepresentable.{IsUnrepresentable}
use Rattle.tocmark_laws.specs.Unexpected.{setting_at}
use Rattle.tocmark_state.specs.Ranges.{Pair}
use Rattle.tocmark_state.specs.Walk.{Rendering, Standing, is_due, walk}

-- a unit is the events of a forest which, after this document, before this event and with the label of these events, can't be
-- represented
pub record IsUnrepresentableUnit (s : Setting) (d : DocumentView) (unit : List SourcedEvent) (next : Option EventView) : Type 0 where
  pub forest : Trees
  pub is : flat forest ≡ unit
  pub cause : IsUnrepresentable (labelled s d unit next) d forest next

-- the first pair at which a list is refused where units are written so, after the document that is made of the one there: it makes
-- a unit due, which doesn't wait and can't be represented
pub record HasUnrepresentableUnit (how : Rendering) (seen : DocumentView → DocumentView) (options : OptionsView) (reading : List ℕ → ParserOptions → ReadingView) (source : List ℕ) (from : Standing) (p : List Pair) : Type 0 where
  pub before : List Pair
  pub pair : Pair
  pub after : List Pair
  pub is : p ≡ before ++ pair ∷ after
  pub at : Standing
  pub stands : (walk how source from before).outcome ≡ Ok at
  pub due : is_due at ≡ true
  pub writable : how.waits at.pending ≡ false
  pub cause : IsUnrepresentableUnit (setting_at options reading at.document) (seen at.document.document) at.pending (Some pair.0)

-- all pairs are taken, no container is open, and the last unit can't be represented
pub record HasUnrepresentableEnd (how : Rendering) (seen : DocumentView → DocumentView) (options : OptionsView) (reading : List ℕ → ParserOptions → ReadingView) (source : List ℕ) (from : Standing) (p : List Pair) : Type 0 where
  pub at : Standing
  pub stands : (walk how source from p).outcome ≡ Ok at
  pub closed : at.open_tags ≡ []
  pub cause : IsUnrepresentableUnit (setting_at options reading at.document) (seen at.document.document) at.pending None

-- which unit of a list of pairs can't be represented
pub data IsUnrepresentableIn (how : Rendering) (seen : DocumentView → DocumentView) (options : OptionsView) (reading : List ℕ → ParserOptions → ReadingView) (source : List ℕ) (from : Standing) (p : List Pair) : Type 0 where
  AtPair : HasUnrepresentableUnit how seen options reading source from p → IsUnrepresentableIn how seen options reading source from p
  AtEnd : HasUnrepresentableEnd how seen options reading source from p → IsUnrepresentableIn how seen options reading source from p
