use Rattle.tocmark_text_laws.proofs.ListEndsRun.{list_between}
use Rattle.tocmark_text_laws.proofs.list_ends.a_list_ends.Goals as goal

pub returns : goal.returns
returns c = list_between
