use Rattle.tocmark_event.specs.Options.{options_view}
use Rattle.tocmark_documents.proofs.line_writing.written_by_lines.Goals as goal

pub returns-in-Ok-clause-written : goal.returns-in-Ok-clause-written
returns-in-Ok-clause-written c =
    c.in-Ok.ensures.written (options_view c.args.options) c.args.flags
    (record { stands = c.in_ok-state.ensures.stands c.args.source.now; same = c.in_ok-state.ensures.same; handed = c.new-output.ensures.bytes })
