use Rattle.std.proofs.Common.{◌≡◌}
use Rattle.test_script.proofs.alike.are_same_runs.Given as goal

abbrev pub invariant-loop-place : goal.invariant-loop-place
invariant-loop-place l =
    record {
      mark : l.left.at_mark ≡ l.fn.left.at_mark;
    }
