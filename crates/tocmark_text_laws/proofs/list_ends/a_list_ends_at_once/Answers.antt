use Rattle.tocmark_text_laws.proofs.ListEndsRun.{list_at_once}
use Rattle.tocmark_text_laws.proofs.list_ends.a_list_ends_at_once.Goals as goal

pub returns : goal.returns
returns c = list_at_once
