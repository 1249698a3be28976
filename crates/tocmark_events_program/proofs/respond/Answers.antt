use Rattle.std.proofs.Common.{refl, subst, sym}
use Rattle.tocmark_events_program.specs.Events.{IsOutput, lines_read}
use Rattle.tocmark_events_program.specs.declared.arguments.Call.{Call}
use Rattle.tocmark_events_program.proofs.Late.{front_written}
use Rattle.tocmark_events_program.proofs.respond.Goals as goal

pub returns-in_err-stream-in-Stream-clause-late : goal.returns-in_err-stream-in-Stream-clause-late
returns-in_err-stream-in-Stream-clause-late g c =
    let input = c.args.input.now in
    let lines = lines_read c.in-Stream.flags c.in-Stream.positions input in
    front_written g.O.Write.contents c.from_residual.result c.args.call c.args.source.now input c.args.output.now c.stream.new.output lines
    (subst (λ (call : Call). IsOutput call c.args.source.now input lines) (sym c.in-Stream.is) refl) c.in_err-stream-in-Stream.ensures.front
