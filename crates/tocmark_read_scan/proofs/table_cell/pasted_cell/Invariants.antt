use Rattle.std.proofs.Common.{◌≡◌, take, []}
use Rattle.std.specs.List.{fold}
use Rattle.tocmark_read_scan.specs.Basic.{bytes_between}
use Rattle.tocmark_read_scan.specs.Content.{pasted_view}
use Rattle.tocmark_read_scan.specs.TableCell.{cell_step}
use Rattle.tocmark_read_scan.proofs.table_cell.pasted_cell.Given as goal

abbrev pub invariant-loop-byte : goal.invariant-loop-byte
invariant-loop-byte l =
    (l.place, pasted_view l.content)
    ≡ fold (cell_step l.source) (l.from, record { bytes = []; places = [] }) (take l.byte-index (bytes_between l.source l.from l.to))
