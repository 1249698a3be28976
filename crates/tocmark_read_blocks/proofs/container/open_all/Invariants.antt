use Rattle.std.proofs.Common.{◌≡◌}
use Rattle.tocmark_read_scan.specs.Repeat.{repeated}
use Rattle.tocmark_read_page.specs.Pages.{page}
use Rattle.tocmark_read_blocks.specs.Containers.{container_once_in, containers_opened_in}
use Rattle.tocmark_read_blocks.proofs.container.open_all.Given as goal

abbrev pub invariant-loop-steps_left : goal.invariant-loop-steps_left
invariant-loop-steps_left l =
    repeated (container_once_in l.scan.known.syntax l.scan.text.now l.scan.cells.now l.scan.line l.fn.tail) l._steps_left l.place (page l.so_far)
    ≡ containers_opened_in l.scan.known.syntax l.scan.text.now l.scan.cells.now l.scan.line l.fn.tail l.fn.first (page l.fn.so_far)
