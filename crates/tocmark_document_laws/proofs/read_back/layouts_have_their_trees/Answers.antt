use Rattle.tocmark_document_laws.proofs.ReadBackPlain.{layouts_read}
use Rattle.tocmark_document_laws.proofs.read_back.layouts_have_their_trees.Goals as goal

pub returns : goal.returns
returns c options flags f tokens plain listless tabless small = layouts_read options flags f tokens plain listless tabless small
