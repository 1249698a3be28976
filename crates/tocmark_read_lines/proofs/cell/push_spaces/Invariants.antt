use Rattle.std.proofs.Common.{◌≡◌, ◌++◌}
use Rattle.std.specs.Prelude.{replicate}
use Rattle.tocmark_read_lines.specs.Cells.{cell}
use Rattle.tocmark_read_lines.proofs.cell.push_spaces.Given as goal

abbrev pub invariant-loop-space : goal.invariant-loop-space
invariant-loop-space l = l.cells.items ≡ l.fn.cells.items ++ replicate l._space (cell 32 l.at)
