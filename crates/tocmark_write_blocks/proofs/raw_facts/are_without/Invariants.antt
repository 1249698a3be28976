use Rattle.std.proofs.Common.{◌≤◌, drop, length, map}
use Rattle.tocmark_spelling.specs.Buffered.{buffered_view}
use Rattle.tocmark_write_blocks.specs.Raw.{AreWithout}
use Rattle.tocmark_write_blocks.proofs.raw_facts.are_without.Given as goal

abbrev pub invariant-loop-i : goal.invariant-loop-i
invariant-loop-i l = record {
  within : l.i ≤ length l.events;
  without : AreWithout l.byte (drop l.i (map buffered_view l.events));
}

abbrev pub decreases-loop-i : goal.decreases-loop-i
decreases-loop-i l = l.i
