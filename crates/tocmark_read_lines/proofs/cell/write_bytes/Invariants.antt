use Rattle.std.proofs.Common.{◌≡◌, take}
use Rattle.tocmark_read_lines.specs.Cells.{bytes_of}
use Rattle.tocmark_read_lines.proofs.cell.write_bytes.Given as goal

abbrev pub invariant-loop-cell : goal.invariant-loop-cell
invariant-loop-cell l = l.bytes.items ≡ bytes_of (take l.cell-index l.cells)
