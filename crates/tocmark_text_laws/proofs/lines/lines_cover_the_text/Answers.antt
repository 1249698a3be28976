use Rattle.tocmark_text_laws.proofs.Cover.{lines-cover}
use Rattle.tocmark_text_laws.proofs.lines.lines_cover_the_text.Goals as goal

pub returns : goal.returns
returns c = lines-cover
