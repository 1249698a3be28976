use Rattle.tocmark_laws.proofs.PlainParagraph.{escapes_are_plain_of}
use Rattle.tocmark_laws.proofs.walk.escapes_of_lines_are_plain.Goals as goal

pub returns : goal.returns
returns c l ms lines = escapes_are_plain_of l ms lines
