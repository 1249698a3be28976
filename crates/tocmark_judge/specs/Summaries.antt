-- What a summary says of the events that were added to it.
use Rattle.std.specs.Prelude.{◌≡◌, Bool, false, true, List, [], ◌∷◌}
use Rattle.tocmark_event.specs.Merged.{merged}
use Rattle.tocmark_event.specs.View.{EventView}
use Rattle.tocmark_compare.specs.Digest.{SaysFirst, says}
use Rattle.tocmark_judge.specs.Same.{SpotView, after, at_front, counted, folded, folded_event}
use Rattle.tocmark_judge.specs.declared.summary.Folder.{Folder}
use Rattle.tocmark_judge.specs.declared.summary.Spot.{Spot}
use Rattle.tocmark_judge.specs.declared.summary.Summary.{Summary}

abbrev pub spot_view : Spot → SpotView
spot_view s = record { raw = s.is_raw; behind = s.is_behind_white }

-- where the event after some others is
abbrev pub after_all : SpotView → List EventView → SpotView
after_all s [] = s
after_all s (e ∷ es) = after_all (after s e) es

-- a folder says these events with folded white space, and knows where the next one is
pub record Folds (f : Folder) (events : List EventView) : Type 0 where
  pub digest : SaysFirst f.digest (folded at_front events)
  pub spot : spot_view f.spot ≡ after_all at_front events

abbrev pub SumsAs : Bool → Folder → List EventView → Type 0
SumsAs false f events = SaysFirst f.digest events
SumsAs true f events = Folds f events

-- a summary says these events, and then what else is added to it
abbrev pub SumsFirst : Summary → List EventView → Type 0
SumsFirst s events = SumsAs s.folds s.folder events

-- a summary says these events and no others
abbrev pub Sums : Summary → List EventView → Type 0
Sums s events = says s.folder.digest ≡ merged (counted s.folds events)

-- an event counts as it is, and the next one is in such a block
pub record IsPlain (s : SpotView) (raw : Bool) (e : EventView) : Type 0 where
  pub counts : folded_event s e ≡ e ∷ []
  pub next : after s e ≡ record { raw = raw; behind = false }
