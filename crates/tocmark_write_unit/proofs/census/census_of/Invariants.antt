use Rattle.std.proofs.Common.{◌≤◌, length, map, drop}
use Rattle.tocmark_spelling.specs.Buffered.{buffered_view}
use Rattle.tocmark_write_unit.specs.CensusOf.{IsCensus}
use Rattle.tocmark_write_unit.proofs.census.census_of.Given as goal

abbrev pub invariant-loop-i : goal.invariant-loop-i
invariant-loop-i l =
    record {
      within : l.i ≤ length l.events;
      counted : IsCensus (drop l.i (map buffered_view l.events)) l.census;
    }

abbrev pub decreases-loop-i : goal.decreases-loop-i
decreases-loop-i l = l.i
