use Rattle.std.proofs.Common.{List, length, ◌++◌}
use Rattle.tocmark_reader.specs.Left.{reading_left}
use Rattle.tocmark_event.specs.View.{EventView}
use Rattle.tocmark_compare.specs.Given.{found_events}
use Rattle.tocmark_judge.proofs.Handing.{IsHanding}
use Rattle.tocmark_judge.proofs.parts.hand_blocks.Given as goal

-- what was taken and what is left are all
abbrev pub invariant-loop-part : goal.invariant-loop-part
invariant-loop-part g l =
    (before : List EventView) → g.T.PartTaker.has_taken l.fn.taker before → IsHanding g.T.PartTaker.has_taken l.taker (reading_left l.blocks) (before ++ found_events (reading_left l.fn.blocks))

abbrev pub decreases-loop-part : goal.decreases-loop-part
decreases-loop-part g l = length (reading_left l.blocks).events
