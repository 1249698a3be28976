use Rattle.tocmark_text_laws.proofs.ItemRows.{items}
use Rattle.tocmark_text_laws.proofs.items.some_texts_make_an_item.Goals as goal

pub returns : goal.returns
returns c = items
