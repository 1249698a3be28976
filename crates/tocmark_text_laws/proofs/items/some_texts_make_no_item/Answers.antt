use Rattle.tocmark_text_laws.proofs.ItemRows.{no_items}
use Rattle.tocmark_text_laws.proofs.items.some_texts_make_no_item.Goals as goal

pub returns : goal.returns
returns c = no_items
