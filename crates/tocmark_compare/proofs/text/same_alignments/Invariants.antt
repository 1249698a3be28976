use Rattle.std.proofs.Common.{◌≡◌, length, map, drop, bytes_eq}
use Rattle.tocmark_spelling.specs.SameEvents.{alignment_code}
use Rattle.tocmark_compare.proofs.text.same_alignments.Given as goal

abbrev pub invariant-loop-i : goal.invariant-loop-i
invariant-loop-i l =
    record {
      long : length l.a ≡ length l.b;
      rest : bytes_eq (map alignment_code (drop l.i l.a)) (map alignment_code (drop l.i l.b)) ≡ bytes_eq (map alignment_code l.a) (map alignment_code l.b);
    }
