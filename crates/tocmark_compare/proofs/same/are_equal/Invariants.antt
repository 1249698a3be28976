use Rattle.std.proofs.Common.{◌≡◌, length, drop}
use Rattle.tocmark_spelling.specs.SameEvents.{same_events}
use Rattle.tocmark_compare.specs.Given.{given_events}
use Rattle.tocmark_compare.proofs.same.are_equal.Given as goal

abbrev pub invariant-loop-i : goal.invariant-loop-i
invariant-loop-i g l =
    record {
      long : length l.found ≡ length l.given;
      rest : same_events (given_events (drop l.i l.found)) (given_events (drop l.i l.given)) ≡ same_events (given_events l.found) (given_events l.given);
    }
