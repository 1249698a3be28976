use Rattle.std.proofs.Common.{sym, ◌∙◌}
use Rattle.tocmark_read_scan.proofs.Repeats.{repeated_stop}
use Rattle.tocmark_read_page.proofs.definition.define_all.Goals as goal

-- no definition is left: the loop ends as the definition does
pub returns-in-None : goal.returns-in-None
returns-in-None c = sym (repeated_stop _ _ _ _ _ c.loop-steps_left-test.true (rw c.in-None.is at c.in_ok-define_once.ensures)) ∙ c.loop-steps_left.invariant
