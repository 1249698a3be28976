use Rattle.std.proofs.Common.{sym, ◌∙◌}
use Rattle.tocmark_read_scan.proofs.Repeats.{repeated_stop}
use Rattle.tocmark_reader.proofs.definitions.place_all.Goals as goal

-- no definition is left: the loop ends as the definition does
pub returns-in-None : goal.returns-in-None
returns-in-None c = sym (repeated_stop _ _ _ _ _ c.loop-steps_left-test.true (rw c.in-None.is at c.in_ok-place_once.ensures)) ∙ c.loop-steps_left.invariant
