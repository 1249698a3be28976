-- Events that wait for their unit, with the containers that are open after them.
use Rattle.std.specs.Prelude.{◌≡◌, ℕ, if◌then◌else◌, Option, Result, Ok, Err, List, [], ◌∷◌, ◌++◌, option_map}
use Rattle.std.specs.Borrow.{Bor}
use Rattle.tocmark_event.specs.Ends.{same_end}
use Rattle.tocmark_event.specs.View.{EventView, Start, End, Leaf, SourcedEvent, end_of, unsourced}
use Rattle.tocmark_event.specs.declared.event.TagEnd.{TagEnd}
use Rattle.tocmark_event.specs.declared.options.Error.{Error}
use Rattle.tocmark_event.specs.declared.options.Error.TheVariants as error

-- the open containers after an End, which none but the innermost one's may be
abbrev pub closed : List TagEnd → TagEnd → Result (List TagEnd) Error
closed [] k = Err error.UnexpectedEvent
closed (o ∷ os) k = if same_end k o then Ok os else Err error.UnexpectedEvent

-- the open containers after one event
abbrev pub nested : List TagEnd → EventView → Result (List TagEnd) Error
nested os (Start t) = Ok (end_of t ∷ os)
nested os (End k) = closed os k
nested os (Leaf l) = Ok os

-- the events that wait, and the Ends of the containers that are open after them, innermost first
pub record PendingView : Type 0 where
  pub events : List SourcedEvent
  pub open_tags : List TagEnd

-- nothing waits
abbrev pub nothing_pending : PendingView
nothing_pending = record { events = []; open_tags = [] }

-- an event after those that wait, with these containers open then, or the refusal
abbrev pub behind : PendingView → SourcedEvent → Result (List TagEnd) Error → Result PendingView Error
behind p e (Ok os) = Ok (record { events = p.events ++ e ∷ []; open_tags = os })
behind p e (Err x) = Err x

-- one more event, where it is nested right
abbrev pub one_more : PendingView → SourcedEvent → Result PendingView Error
one_more p e = behind p e (nested p.open_tags (unsourced e))

-- a call that was to add an event did so; or the event can't come there, or memory ran out, and all is as it was
abbrev pub Joins : {X : Type 0} → PendingView → SourcedEvent → Result X Error → PendingView → Type 0
Joins old e (Ok x) new = one_more old e ≡ Ok new
Joins old e (Err error.UnexpectedEvent) new = (one_more old e ≡ Err error.UnexpectedEvent) × (new ≡ old)
Joins old e (Err error.OutOfMemory) new = new ≡ old
Joins old e (Err x) new = ⊥

-- a text that is lent, if there is one, as bytes
abbrev pub text_now : Option (Bor (List ℕ)) → Option (List ℕ)
text_now source = option_map (λ s. s.now) source
