use Rattle.std.proofs.Common.{[]}
use Rattle.tocmark_compare.specs.Given.{found_events}
use Rattle.tocmark_judge.proofs.Folding.{sums-all}
use Rattle.tocmark_format.proofs.format.Formatter.read_back.Goals as goal

pub returns-clause-says : goal.returns-clause-says
returns-clause-says g c =
    let f = c.args.self.now in
    sums-all c.read_parts.new.taker.says (found_events (g.R.Reader.reading f.judge.reader.now c.args.text.now f.judge.flags)) (c.in_ok-definitions.ensures.taken [] c.new-back.ensures)
