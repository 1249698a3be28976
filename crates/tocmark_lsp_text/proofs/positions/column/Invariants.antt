use Rattle.std.proofs.Common.{◌≡◌, ◌+◌, drop}
use Rattle.tocmark_lsp_text.specs.Positions.{column}
use Rattle.tocmark_lsp_text.proofs.positions.column.Given as goal

abbrev pub invariant-loop-at : goal.invariant-loop-at
invariant-loop-at l = l.at + column l.encoding l.left (drop l.at l.line) ≡ column l.encoding l.count l.line
