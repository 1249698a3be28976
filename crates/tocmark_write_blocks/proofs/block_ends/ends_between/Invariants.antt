use Rattle.std.proofs.Common.{◌≡◌, ◌-◌, ◌≤◌}
use Rattle.tocmark_write_blocks.specs.BlockEnds.{last_of, ends_in}
use Rattle.tocmark_write_blocks.proofs.block_ends.ends_between.Given as goal

abbrev pub invariant-loop-left : goal.invariant-loop-left
invariant-loop-left l = record {
  within : l.left ≤ l.to;
  ends : l.ends ≡ ends_in (last_of l.left l.text);
}

abbrev pub decreases-loop-left : goal.decreases-loop-left
decreases-loop-left l = l.to - l.left
