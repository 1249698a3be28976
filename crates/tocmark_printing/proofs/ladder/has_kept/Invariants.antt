use Rattle.std.proofs.Common.{◌≡◌, drop}
use Rattle.std.specs.List.{list_any}
use Rattle.tocmark_printing.specs.Kept.{keeps_lines}
use Rattle.tocmark_printing.proofs.ladder.has_kept.Given as goal

abbrev pub invariant-loop-step : goal.invariant-loop-step
invariant-loop-step l = list_any keeps_lines (drop l.step-index l.steps) ≡ list_any keeps_lines l.steps
