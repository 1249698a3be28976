use Rattle.std.proofs.Common.{List, length, string_bytes}
use Rattle.tocmark_reader.specs.Left.{reading_left}
use Rattle.tocmark_state.specs.Ranges.{Pair}
use Rattle.tocmark_program.specs.Program.{IsWriting}
use Rattle.tocmark_program.proofs.write_blocks.Given as goal

-- the events that are left are to be written, whatever they are in all
abbrev pub invariant-loop-part : goal.invariant-loop-part
invariant-loop-part l =
    (all : List Pair) → IsWriting l.spelling l.text all l.fn.state l.fn.blocks (string_bytes l.fn.output) → IsWriting l.spelling l.text all l.state l.blocks (string_bytes l.output)

abbrev pub decreases-loop-part : goal.decreases-loop-part
decreases-loop-part l = length (reading_left l.blocks).events
