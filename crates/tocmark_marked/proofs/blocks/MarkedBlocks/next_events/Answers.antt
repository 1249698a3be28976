use Rattle.std.proofs.Common.{Option, subst, sym}
use Rattle.std.specs.Prelude.{IfSome}
use Rattle.tocmark_event.specs.Reading.{ReadingView, reading_view}
use Rattle.tocmark_event.specs.declared.reader.Reading.{Reading}
use Rattle.tocmark_reader.specs.Left.{IsPart, reading_left}
use Rattle.tocmark_marked.specs.Marked.{blocks_left, in_whole}
use Rattle.tocmark_marked.proofs.Parts.{part_in_whole}
use Rattle.tocmark_marked.proofs.blocks.MarkedBlocks.next_events.Goals as goal

pub returns-in-Some-clause-some : goal.returns-in-Some-clause-some
returns-in-Some-clause-some c =
    let old = c.args.self.now in
    let rest = reading_left c.next_events.new.self in
    let is = subst (λ (o : Option Reading). IfSome o (λ found. IsPart (reading_view found) (reading_left old.rest) rest)) c.in-Some.is c.in_ok-part.ensures.some in
    subst (λ (part : ReadingView). IsPart part (blocks_left old) (in_whole old.is_marked rest)) (sym c.in_whole.ensures)
    (part_in_whole old.is_marked (reading_view c.in-Some.part) (reading_left old.rest) rest is)
