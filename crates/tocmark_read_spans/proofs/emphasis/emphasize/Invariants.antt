use Rattle.std.proofs.Common.{◌≡◌, ◌≤◌, drop}
use Rattle.std.specs.List.{fold}
use Rattle.tocmark_read_spans.specs.Role.{roles_of}
use Rattle.tocmark_read_spans.specs.Emphasis.{openers, emphasis_start, run_step}
use Rattle.tocmark_read_spans.proofs.emphasis.emphasize.Given as goal

abbrev pub invariant-loop-at : goal.invariant-loop-at
invariant-loop-at l =
    (l.machine.height ≤ l.at)
    × (fold run_step (openers (roles_of l.roles) l.runs l.machine) (drop l.at l.runs) ≡ fold run_step (emphasis_start (roles_of l.fn.roles)) l.fn.runs)
