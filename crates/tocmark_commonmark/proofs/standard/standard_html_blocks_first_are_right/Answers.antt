use Rattle.tocmark_commonmark.proofs.StandardHtmlBlocksFirst.{standard-html-blocks-first-right}
use Rattle.tocmark_commonmark.proofs.standard.standard_html_blocks_first_are_right.Goals as goal

pub returns : goal.returns
returns c = standard-html-blocks-first-right
