use Rattle.std.proofs.Common.{◌≡◌}
use Rattle.tocmark_read_scan.specs.Repeat.{repeated}
use Rattle.tocmark_read_constructs.specs.Tables.{count_once, cell_count}
use Rattle.tocmark_read_constructs.proofs.table.cell_count.Given as goal

abbrev pub invariant-loop-steps_left : goal.invariant-loop-steps_left
invariant-loop-steps_left l =
    (repeated (count_once l.text l.end) l._steps_left l.place l.count).0 ≡ cell_count l.text l.start l.end
