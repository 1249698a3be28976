use Rattle.tocmark_read_spans.proofs.Stacks.{keeps_pushed}
use Rattle.tocmark_read_spans.proofs.emphasis.Openers.take.Goals as goal

pub returns-then-left-gt0-clause-kept : goal.returns-then-left-gt0-clause-kept
returns-then-left-gt0-clause-kept c = keeps_pushed c.args.self.now.height c.close_if.new.self.height c.push.new.self.height c.args.runs.now c.close_if.new.runs c.push.new.runs c.in_ok-left.ensures.kept c.push.ensures.kept
