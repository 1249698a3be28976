use Rattle.tocmark_text_laws.proofs.ListEndsRun.{list_near}
use Rattle.tocmark_text_laws.proofs.list_ends.a_list_ends_near_the_margin.Goals as goal

pub returns : goal.returns
returns c = list_near
