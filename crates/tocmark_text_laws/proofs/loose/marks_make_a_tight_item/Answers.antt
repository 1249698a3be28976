use Rattle.tocmark_text_laws.proofs.TightItem.{tight_item}
use Rattle.tocmark_text_laws.proofs.loose.marks_make_a_tight_item.Goals as goal

pub returns : goal.returns
returns c = tight_item
