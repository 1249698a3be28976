use Rattle.std.proofs.Common.{◌≡◌}
use Rattle.tocmark_read_scan.specs.Repeat.{repeated}
use Rattle.tocmark_read_spans.specs.Role.{roles_of}
use Rattle.tocmark_read_spans.specs.Emphasis.{once, openers, Keeps}
use Rattle.tocmark_read_spans.proofs.emphasis.Openers.close.Given as goal

-- under .rev() the loop's own variable counts the steps left
abbrev pub invariant-loop-steps_left : goal.invariant-loop-steps_left
invariant-loop-steps_left l =
    (repeated once l._steps_left l.left (openers (roles_of l.roles) l.runs l.self) ≡ repeated once l.fn.closer.count l.fn.closer (openers (roles_of l.fn.roles) l.fn.runs l.fn.self))
    × Keeps l.fn.self.height l.fn.runs l.self.height l.runs
