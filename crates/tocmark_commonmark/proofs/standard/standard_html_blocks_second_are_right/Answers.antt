use Rattle.tocmark_commonmark.proofs.StandardHtmlBlocksSecond.{standard-html-blocks-second-right}
use Rattle.tocmark_commonmark.proofs.standard.standard_html_blocks_second_are_right.Goals as goal

pub returns : goal.returns
returns c = standard-html-blocks-second-right
