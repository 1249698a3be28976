use Rattle.tocmark_text_laws.proofs.LooseRun.{loose_list}
use Rattle.tocmark_text_laws.proofs.loose.a_list_ends_in_a_loose_item.Goals as goal

pub returns : goal.returns
returns c = loose_list
