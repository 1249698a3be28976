-- What one turn of the renderer over a unit's events comes to.
use Rattle.std.specs.Prelude.{◌≡◌, ◌≤◌, ◌++◌, ◌∷◌, ℕ, Option, Some, List, Result, Ok, Err, drop, length, reverse, take}
use Rattle.tocmark_write_emphasis.specs.Low.{site_in}
use Rattle.tocmark_event.specs.View.{SourcedEvent, EventView}
use Rattle.tocmark_event.specs.declared.options.Error.{Error}
use Rattle.tocmark_event.specs.declared.options.Error.TheVariants as error
use Rattle.tocmark_spelling.specs.Machine.{Machine, going, refused, run, step, answer_of}
use Rattle.tocmark_spelling.specs.Plan.{Manner, Setting}
use Rattle.tocmark_write_renderer.specs.WriterOf.{Rendering, site_of}
use Rattle.tocmark_write_unit.specs.NeighboursOf.{before_in, next_in, rest_in}
use Rattle.tocmark_write_unit.specs.declared.turn.Neighbours.{Neighbours}

-- the machine goes on where the renderer is, after these events
abbrev pub Goes : Rendering → Machine → List SourcedEvent → Type 0
Goes w machine before = machine ≡ going (site_of w) before

-- the machine refused as well; memory may run out at any call
abbrev pub IsRefused : Error → Machine → Type 0
IsRefused error.OutOfMemory machine = Unit {0}
IsRefused error.UnexpectedEvent machine = machine ≡ refused
IsRefused e machine = ⊥

-- one event of the renderer did what a step of the machine does
abbrev pub Moves : {X : Type 0} → Result X Error → Rendering → Machine → List SourcedEvent → Type 0
Moves (Ok x) w machine before = Goes w machine before
Moves (Err e) w machine before = IsRefused e machine

-- the machine is where the renderer is, and the run of these events comes to what it does from there, after so
-- many of them
pub record GoesOn (w : Rendering) (s : Setting) (m : Manner) (next : Option EventView) (machine : Machine) (rest before : List SourcedEvent) (n : ℕ) : Type 0 where
  pub within : n ≤ length rest
  pub site_is : site_in machine ≡ Some (site_of w)
  pub run_is :
      answer_of (run s m next rest machine)
      ≡ answer_of (run s m next (drop n rest) (going (site_of w) (reverse (take n rest) ++ before)))

-- a turn of the renderer did what the machine does with an event, and with so many further ones
abbrev pub Passes : Result ℕ Error → Rendering → Setting → Manner → Option EventView → Machine → List SourcedEvent → List SourcedEvent → Type 0
Passes (Ok n) w s m next machine rest before = GoesOn w s m next machine rest before n
Passes (Err e) w s m next machine rest before = IsRefused e machine

-- a turn of the renderer, from where it was, at this event and what is around it
abbrev pub Turns : Setting → Manner → SourcedEvent → Neighbours → Result ℕ Error → Rendering → Rendering → Type 0
Turns s m e n result old new =
    Passes result new s m (next_in n) (step s m (next_in n) e (rest_in n) (going (site_of old) (before_in n)))
    (rest_in n) (e ∷ before_in n)
