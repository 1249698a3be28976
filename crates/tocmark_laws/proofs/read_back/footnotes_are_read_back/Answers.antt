use Rattle.tocmark_laws.proofs.NotesReadBack.{footnotes_read_back}
use Rattle.tocmark_laws.proofs.read_back.footnotes_are_read_back.Goals as goal

pub returns : goal.returns
returns c options words label note plain few h k g reading flags source = footnotes_read_back options words label note plain few h k g reading flags source
