use Rattle.tocmark_read_back_laws.proofs.TightLists.{paragraphs_wrapped}
use Rattle.tocmark_read_back_laws.proofs.documents.spaced_paragraphs_keep_their_tags.Goals as goal

pub returns : goal.returns
returns c = paragraphs_wrapped
