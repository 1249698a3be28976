use Rattle.std.proofs.Common.{◌≡◌, ◌++◌, map, take}
use Rattle.tocmark_spelling.specs.SameEvents.{alignment_code}
use Rattle.tocmark_compare.proofs.digest.Digest.put_alignments.Given as goal

abbrev pub invariant-loop-alignment : goal.invariant-loop-alignment
invariant-loop-alignment l =
    record {
      bytes : l.self.bytes.items ≡ l.fn.self.bytes.items ++ map alignment_code (take l.alignment-index l.alignments);
      others : l.self.others ≡ l.fn.self.others;
    }
