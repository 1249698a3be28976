use Rattle.tocmark_read_back_laws.proofs.LaidReadings.{layouts_read_back}
use Rattle.tocmark_read_back_laws.proofs.documents.layouts_are_read_back.Goals as goal

pub returns : goal.returns
returns c = layouts_read_back
