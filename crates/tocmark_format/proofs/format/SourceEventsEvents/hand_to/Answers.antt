use Rattle.std.proofs.Common.{[]}
use Rattle.tocmark_compare.specs.Given.{found_events}
use Rattle.tocmark_judge.proofs.Folding.{sums-all}
use Rattle.tocmark_format.proofs.format.SourceEventsEvents.hand_to.Goals as goal

pub returns : goal.returns
returns g c =
    let events = c.args.self.now in
    (sums-all c.read_parts.new.taker.said (found_events (g.R.Reader.reading events.reader.now events.text.now events.flags)) (c.in_ok-definitions.ensures.taken [] c.new.ensures), c.in_ok-definitions.ensures.definitions)
