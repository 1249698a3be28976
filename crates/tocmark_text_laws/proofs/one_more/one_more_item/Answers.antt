use Rattle.tocmark_text_laws.proofs.OneMoreRun.{one_more}
use Rattle.tocmark_text_laws.proofs.one_more.one_more_item.Goals as goal

pub returns : goal.returns
returns c = one_more
