-- Where an event is, as folding needs it.
use Rattle.tocmark_judge.specs.Same.{SpotView}
use Rattle.tocmark_differences.specs.declared.fold.Spot.{Spot}

abbrev pub spot_view : Spot → SpotView
spot_view s = record { raw = s.is_raw; behind = s.is_behind_white }
