use Rattle.std.proofs.Common.{Option, ap, string_bytes, subst}
use Rattle.std.specs.Prelude.{IfSome}
use Rattle.tocmark_event.specs.Reading.{ReadingView, reading_view}
use Rattle.tocmark_event.specs.declared.reader.Reading.{Reading}
use Rattle.tocmark_reader.specs.Left.{IsPart}
use Rattle.tocmark_marked.specs.Marked.{blocks_left}
use Rattle.tocmark_documents.specs.Lines.{AppendsFront}
use Rattle.tocmark_documents.proofs.LinesStreamed.{failed, more_gathered, on_error, passed_on, stopped}
use Rattle.tocmark_documents.proofs.lines.stream.Goals as goal

pub returns-in_err-part-clause-front : goal.returns-in_err-part-clause-front
returns-in_err-part-clause-front g c =
    let contents = g.O.Write.contents in
    on_error c.from_residual.result (stopped c.args.positions.now (contents c.args.output.now) (contents c.loop-lines.output) (string_bytes c.loop-lines.lines) (blocks_left c.loop-lines.blocks).events (blocks_left c.args.blocks.now).events c.loop-lines.invariant)

pub returns-in_err-gathered-clause-front : goal.returns-in_err-gathered-clause-front
returns-in_err-gathered-clause-front g c =
    let contents = g.O.Write.contents in
    on_error c.from_residual-in_err-gathered.result (stopped c.args.positions.now (contents c.args.output.now) (contents c.loop-lines.output) (string_bytes c.loop-lines.lines) (blocks_left c.loop-lines.blocks).events (blocks_left c.args.blocks.now).events c.loop-lines.invariant)

pub loop-lines-preserved : goal.loop-lines-preserved
loop-lines-preserved g c =
    let contents = g.O.Write.contents in
    let ps = c.args.positions.now in
    let before = string_bytes c.loop-lines.lines in
    let gathered = string_bytes c.gather-gathered.new.lines in
    let left = (blocks_left c.loop-lines.blocks).events in
    let rest = (blocks_left c.next_events.new.self).events in
    let all = (blocks_left c.args.blocks.now).events in
    let part = (reading_view c.in-Some.part).events in
    let is = subst (λ (o : Option Reading). IfSome o (λ found. IsPart (reading_view found) (blocks_left c.loop-lines.blocks) (blocks_left c.next_events.new.self))) c.in-Some.is c.in_ok-part.ensures.some in
    passed_on ps (contents c.args.output.now) (contents c.loop-lines.output) (contents c.pass_on.new.output) gathered (string_bytes c.pass_on.new.lines) rest all
    (more_gathered ps (contents c.args.output.now) (contents c.loop-lines.output) before gathered part rest left all c.loop-lines.invariant (ap (λ (v : ReadingView). v.events) is.first) c.in_ok-gathered.ensures)
    c.in_ok-pass_on.ensures.moved

pub returns-in_err-pass_on-clause-front : goal.returns-in_err-pass_on-clause-front
returns-in_err-pass_on-clause-front g c =
    let contents = g.O.Write.contents in
    let ps = c.args.positions.now in
    let before = string_bytes c.loop-lines.lines in
    let gathered = string_bytes c.gather-gathered.new.lines in
    let left = (blocks_left c.loop-lines.blocks).events in
    let rest = (blocks_left c.next_events.new.self).events in
    let all = (blocks_left c.args.blocks.now).events in
    let part = (reading_view c.in-Some.part).events in
    let is = subst (λ (o : Option Reading). IfSome o (λ found. IsPart (reading_view found) (blocks_left c.loop-lines.blocks) (blocks_left c.next_events.new.self))) c.in-Some.is c.in_ok-part.ensures.some in
    on_error c.from_residual-in_err-pass_on.result
    (failed ps (contents c.args.output.now) (contents c.loop-lines.output) (contents c.pass_on.new.output) gathered rest all
    (more_gathered ps (contents c.args.output.now) (contents c.loop-lines.output) before gathered part rest left all c.loop-lines.invariant (ap (λ (v : ReadingView). v.events) is.first) c.in_ok-gathered.ensures)
    c.in_err-pass_on.ensures.front)

pub returns-in_err-write_bytes-clause-front : goal.returns-in_err-write_bytes-clause-front
returns-in_err-write_bytes-clause-front g c =
    let contents = g.O.Write.contents in
    on_error c.from_residual-in_err-write_bytes.result
    (failed c.args.positions.now (contents c.args.output.now) (contents c.loop-lines.output) (contents c.write_bytes.new.output) (string_bytes c.loop-lines.lines) (blocks_left c.loop-lines.blocks).events (blocks_left c.args.blocks.now).events c.loop-lines.invariant
    (subst (AppendsFront (contents c.loop-lines.output) (contents c.write_bytes.new.output)) c.as_bytes.ensures.value c.in_err-write_bytes.ensures.front))
