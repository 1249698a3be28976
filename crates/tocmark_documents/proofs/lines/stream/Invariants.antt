use Rattle.std.proofs.Common.{length, string_bytes}
use Rattle.tocmark_marked.specs.Marked.{blocks_left}
use Rattle.tocmark_documents.proofs.LinesStreamed.{IsStreaming}
use Rattle.tocmark_documents.proofs.lines.stream.Given as goal

-- some lines are written, some are gathered, and the events that are left make the others
abbrev pub invariant-loop-lines : goal.invariant-loop-lines
invariant-loop-lines g l =
    IsStreaming l.positions (g.O.Write.contents l.fn.output) (g.O.Write.contents l.output) (string_bytes l.lines) (blocks_left l.blocks).events (blocks_left l.fn.blocks).events

abbrev pub decreases-loop-lines : goal.decreases-loop-lines
decreases-loop-lines g l = length (blocks_left l.blocks).events
