use Rattle.tocmark_text_laws.proofs.KeptLines.{lines_kept}
use Rattle.tocmark_text_laws.proofs.texts.lines_are_kept.Goals as goal

pub returns : goal.returns
returns c = lines_kept
