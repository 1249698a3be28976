use Rattle.tocmark_documents.specs.Packed.{packed_option, packed_range}
use Rattle.tocmark_documents.specs.Unpacked.{own_event, own_pair}
use Rattle.tocmark_documents.proofs.PackedPairs.{event_none, range_none}
use Rattle.tocmark_documents.proofs.PackedRefusals.{lifted, returned}
use Rattle.tocmark_documents.proofs.packed.Packed.pair.Goals as goal

pub returns-in_err-range-clause-refused : goal.returns-in_err-range-clause-refused
returns-in_err-range-clause-refused c =
    let bytes = c.args.self.now.rest.now in
    returned c.from_residual.result c.in_err-range.field-0.0 c.from_residual.ensures.1 (packed_option packed_range) own_pair bytes bytes (range_none bytes) c.in_err-range.ensures.refused

pub returns-in-Err-clause-refused : goal.returns-in-Err-clause-refused
returns-in-Err-clause-refused c =
    let bytes = c.args.self.now.rest.now in
    let mid = c.optional_range.new.self.rest.now in
    lifted own_event own_pair mid bytes (event_none c.in_ok-range.range bytes mid c.in_ok-range.ensures.read) c.in-Err.fault c.in-Err.ensures.refused
