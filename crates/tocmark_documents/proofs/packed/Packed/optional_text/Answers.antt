use Rattle.tocmark_documents.specs.Packed.{packed_byte, packed_option, truth_byte}
use Rattle.tocmark_documents.specs.Unpacked.{own_text}
use Rattle.tocmark_documents.proofs.PackedRefusals.{returned}
use Rattle.tocmark_documents.proofs.PackedWholes.{option_none}
use Rattle.tocmark_documents.proofs.packed.Packed.optional_text.Goals as goal

pub returns-in_err-truth-clause-refused : goal.returns-in_err-truth-clause-refused
returns-in_err-truth-clause-refused c =
    let bytes = c.args.self.now.rest.now in
    returned c.from_residual.result c.in_err-truth.field-0.0 c.from_residual.ensures.1 (packed_byte truth_byte) (packed_option own_text) bytes bytes (option_none own_text bytes) c.in_err-truth.ensures.refused
