use Rattle.tocmark_commonmark.proofs.ExamplesOfRawHtml.{raw-html-right}
use Rattle.tocmark_commonmark.proofs.examples.raw_html_are_right.Goals as goal

pub returns : goal.returns
returns c = raw-html-right
