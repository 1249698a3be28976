use Rattle.std.proofs.Common.{rules}
use Rattle.tocmark_documents.proofs.PackedCuts.{number_read}
use Rattle.tocmark_documents.proofs.packed.number_of.Goals as goal

pub returns : goal.returns
returns c = number_read c.args.digits c.from_le_bytes.result (search rules) (search rules) c.from_le_bytes.ensures
