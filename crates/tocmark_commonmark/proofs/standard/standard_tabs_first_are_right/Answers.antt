use Rattle.tocmark_commonmark.proofs.StandardTabsFirst.{standard-tabs-first-right}
use Rattle.tocmark_commonmark.proofs.standard.standard_tabs_first_are_right.Goals as goal

pub returns : goal.returns
returns c = standard-tabs-first-right
