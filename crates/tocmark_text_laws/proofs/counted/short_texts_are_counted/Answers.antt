use Rattle.tocmark_text_laws.proofs.ShortTexts.{short_counted}
use Rattle.tocmark_text_laws.proofs.counted.short_texts_are_counted.Goals as goal

pub returns : goal.returns
returns c = short_counted
