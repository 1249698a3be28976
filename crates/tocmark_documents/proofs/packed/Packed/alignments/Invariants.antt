use Rattle.std.proofs.Common.{◌-◌}
use Rattle.tocmark_documents.specs.Packed.{alignment_byte, packed_byte}
use Rattle.tocmark_documents.proofs.PackedCuts.{HasRead}
use Rattle.tocmark_documents.proofs.packed.Packed.alignments.Given as goal

abbrev pub invariant-loop-alignments : goal.invariant-loop-alignments
invariant-loop-alignments l = HasRead (packed_byte alignment_byte) l.count l.alignments.items l.alignments.len l.fn.self.rest.now l.self.rest.now

abbrev pub decreases-loop-alignments : goal.decreases-loop-alignments
decreases-loop-alignments l = l.count - l.alignments.len
