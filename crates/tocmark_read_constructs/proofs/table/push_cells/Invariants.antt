use Rattle.std.proofs.Common.{◌≡◌}
use Rattle.tocmark_read_page.specs.Pages.{page, times}
use Rattle.tocmark_read_constructs.specs.Tables.{cell_pushed}
use Rattle.tocmark_read_constructs.proofs.table.push_cells.Given as goal

abbrev pub invariant-loop-left : goal.invariant-loop-left
invariant-loop-left l =
    (times (cell_pushed l.text l.end) l._left (page l.so_far, l.place)).0
    ≡ (times (cell_pushed l.text l.end) l.columns (page l.fn.so_far, l.first)).0
