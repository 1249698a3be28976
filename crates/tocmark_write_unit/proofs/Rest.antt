-- What the events of a unit come to from a place on.
use Rattle.std.specs.Prelude.{ℕ, List, Option, drop, reverse, take}
use Rattle.tocmark_event.specs.View.{EventView, SourcedEvent}
use Rattle.tocmark_spelling.specs.Machine.{answer_of, going, run}
use Rattle.tocmark_spelling.specs.Page.{Site}
use Rattle.tocmark_spelling.specs.Plan.{Manner, Setting}

-- where the machine comes from here with the events from this place on, those before it after it
abbrev pub rest_from : Setting → Manner → Option EventView → List SourcedEvent → ℕ → Site → Option Site
rest_from s m next es place here = answer_of (run s m next (drop place es) (going here (reverse (take place es))))
