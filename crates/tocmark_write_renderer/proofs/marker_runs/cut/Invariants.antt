use Rattle.std.proofs.Common.{◌≡◌, ◌≤◌, length, reverse, take}
use Rattle.tocmark_write_renderer.specs.RunsOf.{cut_at}
use Rattle.tocmark_write_renderer.proofs.marker_runs.cut.Given as goal

abbrev pub invariant-loop-count : goal.invariant-loop-count
invariant-loop-count l =
    record {
      same : l.runs.items ≡ l.initial.runs.items;
      within : l.count ≤ length l.runs.items;
      behind : cut_at l.place (reverse (take l.count l.runs.items)) ≡ cut_at l.place (reverse l.runs.items);
    }

abbrev pub decreases-loop-count : goal.decreases-loop-count
decreases-loop-count l = l.count
