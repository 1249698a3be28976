use Rattle.tocmark_documents.specs.Packed.{packed_byte, truth_byte}
use Rattle.tocmark_documents.specs.Unpacked.{own_code}
use Rattle.tocmark_documents.proofs.PackedRefusals.{returned}
use Rattle.tocmark_documents.proofs.PackedWholes.{code_none}
use Rattle.tocmark_documents.proofs.packed.Packed.code.Goals as goal

pub returns-in_err-truth-clause-refused : goal.returns-in_err-truth-clause-refused
returns-in_err-truth-clause-refused c =
    let bytes = c.args.self.now.rest.now in
    returned c.from_residual.result c.in_err-truth.field-0.0 c.from_residual.ensures.1 (packed_byte truth_byte) own_code bytes bytes (code_none bytes) c.in_err-truth.ensures.refused
