use Rattle.std.proofs.Common.{[]}
use Rattle.tocmark_compare.specs.Given.{given_events}
use Rattle.tocmark_compare.proofs.Digests.{says-all}
use Rattle.tocmark_compare.proofs.digest.Digest.of.Goals as goal

pub returns : goal.returns
returns c = says-all c.add.new.self (given_events c.args.events.now) (c.in_ok-add.ensures [] c.new-digest.ensures)
