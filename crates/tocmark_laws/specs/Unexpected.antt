-- Why a list of events is refused as unexpected, down to the event.
use Rattle.std.specs.Prelude.{◌≡◌, ◌≢◌, ◌++◌, ℕ, List, [], ◌∷◌, Ok, None}
use Rattle.tocmark_event.specs.Forest.{flat}
use Rattle.tocmark_event.specs.View.{SourcedEvent}
use Rattle.tocmark_event.specs.declared.event.flags.ParserOptions.{ParserOptions}
use Rattle.tocmark_event.specs.Options.{OptionsView}
use Rattle.tocmark_event.specs.declared.options.Error.TheVariants.{UnexpectedEvent}
use Rattle.tocmark_event.specs.Reading.{ReadingView}
use Rattle.tocmark_spelling.specs.Body.{Trees}
use Rattle.tocmark_spelling.specs.Plan.{Setting}
use Rattle.tocmark_spelling.specs.PlanOf.{setting_of}
use Rattle.tocmark_laws.specs.Causes.{HasWrongEnd}
use Rattle.tocmark_state.specs.Ranges.{Pair}
use Rattle.tocmark_state.specs.Walk.{Kept, Rendering, Standing, walk}
use Rattle.tocmark_laws.specs.Misplaced.{HasMisplacedStart}

-- what units are written with after a document, but for the label of one
abbrev pub setting_at : OptionsView → (List ℕ → ParserOptions → ReadingView) → Kept → Setting
setting_at options reading kept = setting_of options kept.flags reading None

-- these events are a forest's, and one of them isn't allowed where it is
pub record IsMisplacedUnit (s : Setting) (unit : List SourcedEvent) : Type 0 where
  pub forest : Trees
  pub is : flat forest ≡ unit
  pub start : HasMisplacedStart s forest

-- why a pair is unexpected, where the pairs before it are: an event of the unit that it makes due isn't allowed where it
-- does, or it is an End without its Start or of a container that isn't the innermost
pub data IsUnexpected (s : Setting) (at : Standing) (pair : Pair) : Type 0 where
  InUnit : IsMisplacedUnit s at.pending → IsUnexpected s at pair
  ItsEnd : HasWrongEnd at pair UnexpectedEvent → IsUnexpected s at pair

-- why the end of the events is unexpected, where all pairs are: a container isn't ended, or an event of the last unit may
-- not be where it is
pub data IsUnexpectedEnd (s : Setting) (at : Standing) : Type 0 where
  IsOpen : at.open_tags ≢ [] → IsUnexpectedEnd s at
  InLastUnit : IsMisplacedUnit s at.pending → IsUnexpectedEnd s at

-- the first pair that is unexpected where units are written so, and why
pub record HasUnexpectedPair (how : Rendering) (options : OptionsView) (reading : List ℕ → ParserOptions → ReadingView) (source : List ℕ) (from : Standing) (p : List Pair) : Type 0 where
  pub before : List Pair
  pub pair : Pair
  pub after : List Pair
  pub is : p ≡ before ++ pair ∷ after
  pub at : Standing
  pub stands : (walk how source from before).outcome ≡ Ok at
  pub cause : IsUnexpected (setting_at options reading at.document) at pair

-- all pairs are taken, and the end is unexpected
pub record HasUnexpectedEnd (how : Rendering) (options : OptionsView) (reading : List ℕ → ParserOptions → ReadingView) (source : List ℕ) (from : Standing) (p : List Pair) : Type 0 where
  pub at : Standing
  pub stands : (walk how source from p).outcome ≡ Ok at
  pub cause : IsUnexpectedEnd (setting_at options reading at.document) at

-- where a list of pairs is unexpected, and why
pub data IsUnexpectedIn (how : Rendering) (options : OptionsView) (reading : List ℕ → ParserOptions → ReadingView) (source : List ℕ) (from : Standing) (p : List Pair) : Type 0 where
  AtPair : HasUnexpectedPair how options reading source from p → IsUnexpectedIn how options reading source from p
  AtEnd : HasUnexpectedEnd how options reading source from p → IsUnexpectedIn how options reading source from p
