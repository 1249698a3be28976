use Rattle.tocmark_commonmark.proofs.StandardLinksSecond.{standard-links-second-right}
use Rattle.tocmark_commonmark.proofs.standard.standard_links_second_are_right.Goals as goal

pub returns : goal.returns
returns c = standard-links-second-right
