use Rattle.tocmark_text_laws.proofs.NearMarginRows.{near_rows}
use Rattle.tocmark_text_laws.proofs.list_ends.some_texts_are_near_the_margin.Goals as goal

pub returns : goal.returns
returns c = near_rows
