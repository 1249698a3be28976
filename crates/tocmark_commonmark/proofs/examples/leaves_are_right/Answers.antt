use Rattle.tocmark_commonmark.proofs.ExamplesOfLeaves.{leaves-right}
use Rattle.tocmark_commonmark.proofs.examples.leaves_are_right.Goals as goal

pub returns : goal.returns
returns c = leaves-right
