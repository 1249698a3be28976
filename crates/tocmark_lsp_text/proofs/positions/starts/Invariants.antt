use Rattle.std.proofs.Common.{◌≡◌, ◌++◌, drop}
use Rattle.tocmark_lsp_text.specs.Positions.{later_starts, starts}
use Rattle.tocmark_lsp_text.proofs.positions.starts.Given as goal

abbrev pub invariant-loop-at : goal.invariant-loop-at
invariant-loop-at l = l.all.items ++ later_starts l.at (drop l.at l.bytes) ≡ starts l.text
