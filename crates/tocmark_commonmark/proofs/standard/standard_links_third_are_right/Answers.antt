use Rattle.tocmark_commonmark.proofs.StandardLinksThird.{standard-links-third-right}
use Rattle.tocmark_commonmark.proofs.standard.standard_links_third_are_right.Goals as goal

pub returns : goal.returns
returns c = standard-links-third-right
