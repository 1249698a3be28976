use Rattle.tocmark_documents.specs.Interchange.{in_source}
use Rattle.tocmark_documents.proofs.LinesTaken.{all_written}
use Rattle.tocmark_documents.proofs.line_writing.write_all.Goals as goal

pub returns-clause-written : goal.returns-clause-written
returns-clause-written c = λ options flags h.
    let source = c.args.source.now in
    let t = c.in_ok-take_lines.ensures.taken options flags h in
    let all = in_source c.args.has_source t.pairs in
    let b = c.in_ok-finish.ensures.active flags source all t.has_taken.stands in
    record {
      pairs = t.pairs;
      are_lines = t.are_lines;
      is_written = all_written options flags source c.take_lines.new.state c.take_lines.new.output c.finish.new.writer b.more all t.has_taken b.added b.made.0 b.made.1;
    }
