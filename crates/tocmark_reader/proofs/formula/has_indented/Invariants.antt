use Rattle.std.proofs.Common.{◌≡◌, drop}
use Rattle.std.specs.List.{list_any}
use Rattle.tocmark_reader.specs.Formulas.{is_indented}
use Rattle.tocmark_reader.proofs.formula.has_indented.Given as goal

abbrev pub invariant-loop-line : goal.invariant-loop-line
invariant-loop-line l = list_any is_indented (drop l.line-index l.lines) ≡ list_any is_indented l.lines
