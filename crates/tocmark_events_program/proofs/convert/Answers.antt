use Rattle.std.proofs.Common.{string_bytes}
use Rattle.tocmark_events_program.proofs.Late.{flushed_late}
use Rattle.tocmark_events_program.proofs.convert.Goals as goal

pub returns-clause-late : goal.returns-clause-late
returns-clause-late g c =
    flushed_late g.O.Write.contents c.args.call c.args.source.now c.as_str.result.now (string_bytes c.in_ok-text.text) (g.I.Read.remaining c.args.input.now) c.args.output.now c.respond.new.output c.flush.new.self
    c.as_str.ensures.value c.in_ok-text.ensures.text c.in_ok-blocks.ensures.answered c.flush.ensures.bytes
