use Rattle.std.proofs.Common.{sym, ◌∙◌}
use Rattle.tocmark_read_scan.proofs.Repeats.{repeated_stop, repeated_more}
use Rattle.tocmark_read_spans.proofs.Stacks.{keeps_on}
use Rattle.tocmark_read_spans.proofs.emphasis.Openers.close.Goals as goal

-- nothing fits: the loop ends as the definition does
pub returns-in-None-clause-left : goal.returns-in-None-clause-left
returns-in-None-clause-left c = sym (repeated_stop _ _ _ _ _ c.loop-steps_left-test.true (rw c.in-None.is at c.in_ok-close_once.ensures.next)) ∙ c.loop-steps_left.invariant.0

pub returns-in-None-clause-kept : goal.returns-in-None-clause-kept
returns-in-None-clause-kept c = keeps_on c.args.self.now.height c.loop-steps_left.self.height c.close_once.new.self.height c.args.runs.now c.loop-steps_left.runs c.close_once.new.runs c.loop-steps_left.invariant.1 c.in_ok-close_once.ensures.kept

pub loop-steps_left-preserved : goal.loop-steps_left-preserved
loop-steps_left-preserved c = (
  sym (repeated_more _ _ _ _ _ _ c.loop-steps_left-test.true (rw c.in-Some.is at c.in_ok-close_once.ensures.next)) ∙ c.loop-steps_left.invariant.0,
  keeps_on c.args.self.now.height c.loop-steps_left.self.height c.close_once.new.self.height c.args.runs.now c.loop-steps_left.runs c.close_once.new.runs c.loop-steps_left.invariant.1 c.in_ok-close_once.ensures.kept,
)
