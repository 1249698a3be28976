use Rattle.tocmark_text_laws.proofs.LooseRun.{loose_near}
use Rattle.tocmark_text_laws.proofs.loose.a_list_ends_near_the_margin_in_a_loose_item.Goals as goal

pub returns : goal.returns
returns c = loose_near
