use Rattle.std.proofs.Common.{◌≡◌, take}
use Rattle.tocmark_compare.specs.Given.{given_events}
use Rattle.tocmark_judge.specs.Same.{at_front, folded}
use Rattle.tocmark_judge.specs.Summaries.{after_all}
use Rattle.tocmark_differences.specs.Spots.{spot_view}
use Rattle.tocmark_differences.proofs.fold.folded.Given as goal

abbrev pub invariant-loop-pair : goal.invariant-loop-pair
invariant-loop-pair l = record {
  done : given_events l.folding.events.items ≡ folded at_front (given_events (take l.pair-index l.events));
  spot : spot_view l.folding.spot ≡ after_all at_front (given_events (take l.pair-index l.events));
}
