use Rattle.tocmark_commonmark.proofs.ExamplesOfTexts.{texts-right}
use Rattle.tocmark_commonmark.proofs.examples.texts_are_right.Goals as goal

pub returns : goal.returns
returns c = texts-right
