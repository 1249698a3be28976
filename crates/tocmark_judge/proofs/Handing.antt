-- What was handed out of a reading so far, part by part, is the front of what it has in all.
use Rattle.std.proofs.Common.{◌≡◌, List, ◌++◌}
use Rattle.tocmark_event.specs.Reading.{ReadingView}
use Rattle.tocmark_event.specs.View.{EventView}
use Rattle.tocmark_compare.specs.Given.{found_events}

-- events that were taken, and those that are left behind them, are all
pub record IsHanding {X : Type 0} (has : X → List EventView → Type 0) (taker : X) (left : ReadingView) (all : List EventView) : Type 0 where
  pub taken : List EventView
  pub held : has taker taken
  pub whole : taken ++ found_events left ≡ all
