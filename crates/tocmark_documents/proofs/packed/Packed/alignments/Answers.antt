use Rattle.std.proofs.Common.{arith}
use Rattle.tocmark_documents.specs.Packed.{alignment_byte, packed_byte, packed_list, packed_number}
use Rattle.tocmark_documents.proofs.PackedCuts.{byte_cuts, list_begun, list_lacks, list_more, list_none, list_read}
use Rattle.tocmark_documents.proofs.PackedRefusals.{returned}
use Rattle.tocmark_documents.proofs.packed.Packed.alignments.Goals as goal

pub returns-in_err-count-clause-refused : goal.returns-in_err-count-clause-refused
returns-in_err-count-clause-refused c =
    let bytes = c.args.self.now.rest.now in
    returned c.from_residual.result c.in_err-count.field-0.0 c.from_residual.ensures.1 packed_number (packed_list (packed_byte alignment_byte)) bytes bytes (list_none (packed_byte alignment_byte) bytes) c.in_err-count.ensures.refused

pub loop-alignments-init : goal.loop-alignments-init
loop-alignments-init c =
    list_begun (packed_byte alignment_byte) c.in_ok-count.count c.new-alignments.result.items c.new-alignments.result.len c.args.self.now.rest.now c.number.new.self.rest.now c.in_ok-count.ensures.read c.new-alignments.ensures.items c.new-alignments.ensures.len

pub returns-in_err-alignment-clause-refused : goal.returns-in_err-alignment-clause-refused
returns-in_err-alignment-clause-refused c =
    let l = c.loop-alignments in
    let bytes = c.args.self.now.rest.now in
    returned c.from_residual-in_err-alignment.result c.in_err-alignment.field-0.0 c.from_residual-in_err-alignment.ensures.1 (packed_byte alignment_byte) (packed_list (packed_byte alignment_byte)) l.self.rest.now bytes (list_lacks (packed_byte alignment_byte) (packed_byte alignment_byte) (byte_cuts alignment_byte alignment_byte) c.in_ok-count.count l.alignments.items l.alignments.len bytes l.self.rest.now l.invariant (omega (arith, c.loop-alignments-test.true, c.len.ensures))) c.in_err-alignment.ensures.refused

pub loop-alignments-preserved : goal.loop-alignments-preserved
loop-alignments-preserved c =
    let l = c.loop-alignments in
    list_more (packed_byte alignment_byte) c.in_ok-count.count l.alignments.items l.alignments.len c.args.self.now.rest.now l.self.rest.now l.invariant (omega (arith, c.loop-alignments-test.true, c.len.ensures)) c.in_ok-alignment.field-0 c.alignment.new.self.rest.now c.in_ok-alignment.ensures.read c.push.new.self.items c.in_ok-push.ensures.items c.push.new.self.len c.in_ok-push.ensures.len

pub returns-clause-read : goal.returns-clause-read
returns-clause-read c =
    let l = c.loop-alignments in
    list_read (packed_byte alignment_byte) c.in_ok-count.count l.alignments.items l.alignments.len c.args.self.now.rest.now l.self.rest.now l.invariant (omega (arith, c.loop-alignments-test.false, c.len.ensures))
