use Rattle.std.proofs.Common.{◌≡◌, length}
use Rattle.tocmark_reader.specs.Formulas.{lines_behind}
use Rattle.tocmark_reader.proofs.formula.lines_behind.Given as goal

abbrev pub invariant-loop-line : goal.invariant-loop-line
invariant-loop-line l = lines_behind l.place l.left ≡ lines_behind l.place l.lines

abbrev pub decreases-loop-line : goal.decreases-loop-line
decreases-loop-line l = length l.left
