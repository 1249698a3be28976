use Rattle.tocmark_documents.specs.Packed.{packed_byte, packed_option, packed_range, truth_byte}
use Rattle.tocmark_documents.proofs.PackedRefusals.{returned}
use Rattle.tocmark_documents.proofs.PackedWholes.{option_none}
use Rattle.tocmark_documents.proofs.packed.Packed.optional_range.Goals as goal

pub returns-in_err-truth-clause-refused : goal.returns-in_err-truth-clause-refused
returns-in_err-truth-clause-refused c =
    let bytes = c.args.self.now.rest.now in
    returned c.from_residual.result c.in_err-truth.field-0.0 c.from_residual.ensures.1 (packed_byte truth_byte) (packed_option packed_range) bytes bytes (option_none packed_range bytes) c.in_err-truth.ensures.refused
