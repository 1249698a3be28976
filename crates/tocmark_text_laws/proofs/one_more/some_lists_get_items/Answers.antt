use Rattle.tocmark_text_laws.proofs.OneMoreRows.{item_rows}
use Rattle.tocmark_text_laws.proofs.one_more.some_lists_get_items.Goals as goal

pub returns : goal.returns
returns c = item_rows
