use Rattle.std.proofs.Common.{None, subst}
use Rattle.std.specs.Prelude.{OnErr}
use Rattle.tocmark_event.specs.Reading.{ReadingView}
use Rattle.tocmark_documents.specs.Lines.{AppendsFront, lines_with, reading_lines}
use Rattle.tocmark_documents.proofs.LinesStreamed.{nothing_written, on_error}
use Rattle.tocmark_documents.proofs.lines.stream_lines.Goals as goal

pub returns-in_err-blocks-clause-front : goal.returns-in_err-blocks-clause-front
returns-in_err-blocks-clause-front g c =
    on_error c.from_residual.result (nothing_written (g.O.Write.contents c.args.output.now) (reading_lines c.args.flags c.args.text.now))

pub returns-clause-front : goal.returns-clause-front
returns-clause-front g c =
    subst (λ (v : ReadingView). OnErr c.stream-streamed.result (AppendsFront (g.O.Write.contents c.args.output.now) (g.O.Write.contents c.stream-streamed.new.output) (lines_with None v.events))) c.in_ok-blocks.ensures c.stream-streamed.ensures.front
