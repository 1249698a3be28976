-- Why a list of events is refused.
use Rattle.std.specs.Prelude.{◌≡◌, ◌≢◌, ◌++◌, ℕ, List, [], ◌∷◌, true, false, Ok, Err, Some, None}
use Rattle.tocmark_event.specs.View.{End}
use Rattle.tocmark_event.specs.declared.event.TagEnd.{TagEnd}
use Rattle.tocmark_event.specs.declared.options.Error.{Error}
use Rattle.tocmark_event.specs.declared.options.Error.TheVariants as error
use Rattle.tocmark_state.specs.Ranges.{Pair, Range, is_good_range}
use Rattle.tocmark_laws.specs.Trees.{ends_innermost}
use Rattle.tocmark_state.specs.Walk.{Rendering, Standing, is_due, walk}

-- the pair's range is none of the source
pub record HasBadRange (source : List ℕ) (pair : Pair) (e : Error) : Type 0 where
  pub range : Range
  pub is : pair.1 ≡ Some range
  pub bad : is_good_range source range ≡ false
  pub error_is : e ≡ error.InvalidSourceRange

-- the pair's event is an End that isn't the innermost open container's
pub record HasWrongEnd (at : Standing) (pair : Pair) (e : Error) : Type 0 where
  pub end : TagEnd
  pub is : pair.0 ≡ End end
  pub wrong : ends_innermost end at.open_tags ≡ false
  pub error_is : e ≡ error.UnexpectedEvent

-- the unit before the pair, which the pair's event makes due, is refused
pub record HasRefusedUnit (how : Rendering) (at : Standing) (pair : Pair) (e : Error) : Type 0 where
  pub due : is_due at ≡ true
  pub writable : how.waits at.pending ≡ false
  pub refused : how.choice at.document at.pending (Some pair.0) ≡ Err e

-- why a pair is refused, where the pairs before it are
pub data Cause (how : Rendering) (source : List ℕ) (at : Standing) (pair : Pair) (e : Error) : Type 0 where
  BadRange : HasBadRange source pair e → Cause how source at pair e
  RefusedUnit : HasRefusedUnit how at pair e → Cause how source at pair e
  WrongEnd : HasWrongEnd at pair e → Cause how source at pair e

-- the pair at which a walk is refused, and why
pub record IsRefusedAtPair (how : Rendering) (source : List ℕ) (from : Standing) (p : List Pair) (e : Error) : Type 0 where
  pub before : List Pair
  pub pair : Pair
  pub after : List Pair
  pub is : p ≡ before ++ pair ∷ after
  pub at : Standing
  pub stands : (walk how source from before).outcome ≡ Ok at
  pub cause : Cause how source at pair e

-- a container is open at the end
pub record HasOpenContainer (at : Standing) (e : Error) : Type 0 where
  pub opened : at.open_tags ≢ []
  pub error_is : e ≡ error.UnexpectedEvent

-- the last unit is refused
pub record HasRefusedLastUnit (how : Rendering) (at : Standing) (e : Error) : Type 0 where
  pub pending : at.pending ≢ []
  pub refused : how.choice at.document at.pending None ≡ Err e

-- why the end of the events is refused, where all pairs are
pub data EndCause (how : Rendering) (at : Standing) (e : Error) : Type 0 where
  OpenContainer : HasOpenContainer at e → EndCause how at e
  RefusedLastUnit : HasRefusedLastUnit how at e → EndCause how at e

-- all pairs are taken, and the end is refused
pub record IsRefusedAtEnd (how : Rendering) (source : List ℕ) (from : Standing) (p : List Pair) (e : Error) : Type 0 where
  pub at : Standing
  pub stands : (walk how source from p).outcome ≡ Ok at
  pub cause : EndCause how at e

-- where a list of pairs is refused, and why
pub data IsRefusedIn (how : Rendering) (source : List ℕ) (from : Standing) (p : List Pair) (e : Error) : Type 0 where
  AtPair : IsRefusedAtPair how source from p e → IsRefusedIn how source from p e
  AtEnd : IsRefusedAtEnd how source from p e → IsRefusedIn how source from p e
