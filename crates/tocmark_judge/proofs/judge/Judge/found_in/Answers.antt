use Rattle.std.proofs.Common.{[]}
use Rattle.tocmark_compare.specs.Given.{found_events}
use Rattle.tocmark_judge.proofs.Folding.{sums-all}
use Rattle.tocmark_judge.proofs.judge.Judge.found_in.Goals as goal

pub returns-clause-says : goal.returns-clause-says
returns-clause-says g c =
    let f = c.args.self.now in
    sums-all c.read_parts.new.taker (found_events (g.R.Reader.reading f.reader.now c.args.text.now f.flags)) (c.in_ok-definitions.ensures.taken [] c.new-says.ensures)
