use Rattle.std.proofs.Common.{length}
use Rattle.tocmark_documents.proofs.PackedPairs.{HasPairs}
use Rattle.tocmark_documents.proofs.packed.pairs_from_packed.Given as goal

abbrev pub invariant-loop-packed : goal.invariant-loop-packed
invariant-loop-packed l = HasPairs l.pairs.items l.pairs.len l.fn.bytes l.packed.rest.now

abbrev pub decreases-loop-packed : goal.decreases-loop-packed
decreases-loop-packed l = length l.packed.rest.now
