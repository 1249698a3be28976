use Rattle.tocmark_text_laws.proofs.LooseRows.{lists}
use Rattle.tocmark_text_laws.proofs.loose.some_lists_are_loose.Goals as goal

pub returns : goal.returns
returns c = lists
