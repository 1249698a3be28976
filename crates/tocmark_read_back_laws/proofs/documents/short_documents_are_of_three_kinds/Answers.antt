use Rattle.tocmark_read_back_laws.proofs.ShortLists.{short_kinds}
use Rattle.tocmark_read_back_laws.proofs.documents.short_documents_are_of_three_kinds.Goals as goal

pub returns : goal.returns
returns c = short_kinds
