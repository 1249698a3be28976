use Rattle.std.proofs.Common.{◌≡◌, ◌≤◌, length, drop}
use Rattle.tocmark_compare.specs.Apart.{are_apart}
use Rattle.tocmark_compare.specs.Given.{given_events}
use Rattle.tocmark_compare.proofs.same.differ.Given as goal

abbrev pub invariant-loop-i : goal.invariant-loop-i
invariant-loop-i l =
    record {
      first : l.count ≤ length l.found;
      second : l.count ≤ length l.given;
      rest : are_apart (given_events (drop l.i l.found)) (given_events (drop l.i l.given)) ≡ are_apart (given_events l.found) (given_events l.given);
    }
