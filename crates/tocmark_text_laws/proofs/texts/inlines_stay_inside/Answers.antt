use Rattle.tocmark_text_laws.proofs.Inner.{inlines_inside}
use Rattle.tocmark_text_laws.proofs.texts.inlines_stay_inside.Goals as goal

pub returns : goal.returns
returns c = inlines_inside
