use Rattle.tocmark_commonmark.proofs.ExamplesOfTabs.{tabs-right}
use Rattle.tocmark_commonmark.proofs.examples.tabs_are_right.Goals as goal

pub returns : goal.returns
returns c = tabs-right
