use Rattle.std.proofs.Common.{ℕ, List, map, subst}
use Rattle.std.specs.Prelude.{OnErr}
use Rattle.tocmark_event.specs.Reading.{ReadingView}
use Rattle.tocmark_json.specs.Printed.{located_lines}
use Rattle.tocmark_marked.specs.Marked.{blocks_left}
use Rattle.tocmark_documents.specs.Interchange.{located_in}
use Rattle.tocmark_documents.specs.Lines.{AppendsFront, reading_located_lines}
use Rattle.tocmark_documents.proofs.LinesStreamed.{nothing_written, on_error}
use Rattle.tocmark_documents.proofs.lines.stream_located_lines.Goals as goal

pub returns-in_err-places-clause-front : goal.returns-in_err-places-clause-front
returns-in_err-places-clause-front g c =
    on_error c.from_residual.result (nothing_written (g.O.Write.contents c.args.output.now) (reading_located_lines c.args.flags c.args.text.now))

pub returns-in_err-found-clause-front : goal.returns-in_err-found-clause-front
returns-in_err-found-clause-front g c =
    on_error c.from_residual-in_err-found.result (nothing_written (g.O.Write.contents c.args.output.now) (reading_located_lines c.args.flags c.args.text.now))

pub returns-clause-front : goal.returns-clause-front
returns-clause-front g c =
    let front = AppendsFront (g.O.Write.contents c.args.output.now) (g.O.Write.contents c.stream-streamed.new.output) in
    let text = c.args.text.now in
    subst (λ (v : ReadingView). OnErr c.stream-streamed.result (front (located_lines (map (located_in text) v.events)))) c.in_ok-found.ensures
    (subst (λ (t : List ℕ). OnErr c.stream-streamed.result (front (located_lines (map (located_in t) (blocks_left c.in_ok-found.found).events)))) c.in_ok-places.ensures.text c.stream-streamed.ensures.front)
