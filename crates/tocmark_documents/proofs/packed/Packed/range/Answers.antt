use Rattle.tocmark_documents.specs.Packed.{packed_number, packed_range}
use Rattle.tocmark_documents.proofs.PackedRefusals.{returned}
use Rattle.tocmark_documents.proofs.PackedWholes.{range_behind}
use Rattle.tocmark_documents.proofs.packed.Packed.range.Goals as goal

pub returns-in_err-number-clause-refused : goal.returns-in_err-number-clause-refused
returns-in_err-number-clause-refused c =
    let bytes = c.args.self.now.rest.now in
    let mid = c.number.new.self.rest.now in
    returned c.from_residual-in_err-number.result c.in_err-number.field-0.0 c.from_residual-in_err-number.ensures.1 packed_number packed_range mid bytes (range_behind c.in_ok-start.start bytes mid c.in_ok-start.ensures.read) c.in_err-number.ensures.refused
