use Rattle.tocmark_text_laws.proofs.QuotedRun.{quoted_blocks}
use Rattle.tocmark_text_laws.proofs.quoted.marks_make_a_quote.Goals as goal

pub returns : goal.returns
returns c = quoted_blocks
