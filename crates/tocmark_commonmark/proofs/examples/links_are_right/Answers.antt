use Rattle.tocmark_commonmark.proofs.ExamplesOfLinks.{links-right}
use Rattle.tocmark_commonmark.proofs.examples.links_are_right.Goals as goal

pub returns : goal.returns
returns c = links-right
