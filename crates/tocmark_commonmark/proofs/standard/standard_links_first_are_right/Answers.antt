use Rattle.tocmark_commonmark.proofs.StandardLinksFirst.{standard-links-first-right}
use Rattle.tocmark_commonmark.proofs.standard.standard_links_first_are_right.Goals as goal

pub returns : goal.returns
returns c = standard-links-first-right
