use Rattle.tocmark_read_back_laws.proofs.LaidReadings.{agreed_layouts_read_back}
use Rattle.tocmark_read_back_laws.proofs.documents.agreed_layouts_are_read_back.Goals as goal

pub returns : goal.returns
returns c = agreed_layouts_read_back
