use Rattle.std.proofs.Common.{string_bytes}
use Rattle.tocmark_reader.specs.Left.{IsAtEnd, reading_left}
use Rattle.tocmark_program.proofs.Written.{goes_to_end, none_left}
use Rattle.tocmark_program.proofs.write_blocks.Goals as goal

pub returns : goal.returns
returns c =
    goes_to_end c.args.spelling c.args.text.now c.args.state.now c.loop-part.state c.args.blocks.now c.loop-part.blocks c.next_events.new.self (string_bytes c.args.output.now) (string_bytes c.loop-part.output) c.loop-part.invariant
    (none_left c.in_ok-part.field-0 (IsAtEnd (reading_left c.loop-part.blocks) (reading_left c.next_events.new.self)) c.in_default.not-Some c.in_ok-part.ensures.none)
