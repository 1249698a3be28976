use Rattle.tocmark_commonmark.proofs.ExamplesOfEmphasis.{emphases-right}
use Rattle.tocmark_commonmark.proofs.examples.emphases_are_right.Goals as goal

pub returns : goal.returns
returns c = emphases-right
