use Rattle.tocmark_commonmark.proofs.StandardTabsSecond.{standard-tabs-second-right}
use Rattle.tocmark_commonmark.proofs.standard.standard_tabs_second_are_right.Goals as goal

pub returns : goal.returns
returns c = standard-tabs-second-right
