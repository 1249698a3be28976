use Rattle.tocmark_text_laws.proofs.OneMoreLeft.{items_leave}
use Rattle.tocmark_text_laws.proofs.one_more.items_leave_their_list.Goals as goal

pub returns : goal.returns
returns c = items_leave
