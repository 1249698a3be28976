use Rattle.std.proofs.Common.{◌≡◌, drop, []}
use Rattle.tocmark_read_lines.specs.Cells.{cells_of}
use Rattle.tocmark_read_lines.proofs.cell.fill_all.Given as goal

abbrev pub invariant-loop-byte : goal.invariant-loop-byte
invariant-loop-byte l = cells_of l.cells.items l.at (drop l.byte-index l.bytes) ≡ cells_of [] l.fn.start l.bytes
