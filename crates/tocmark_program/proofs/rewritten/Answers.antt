use Rattle.std.proofs.Common.{string_bytes}
use Rattle.tocmark_event.specs.Options.{options_view}
use Rattle.tocmark_program.proofs.Written.{begun}
use Rattle.tocmark_program.proofs.rewritten.Goals as goal

pub returns-in-Ok : goal.returns-in-Ok
returns-in-Ok c =
    c.in-Ok.ensures
    (begun c.args.spelling c.args.text.now c.empty-flags.result (options_view c.default.result) c.in_ok-state.state c.in_ok-blocks.blocks (string_bytes c.new-output.result) c.empty-flags.ensures c.default.ensures c.in_ok-state.ensures.stands c.in_ok-state.ensures.same c.in_ok-blocks.ensures.left c.new-output.ensures.bytes)
