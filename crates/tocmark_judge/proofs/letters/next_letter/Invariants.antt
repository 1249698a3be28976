use Rattle.std.proofs.Common.{◌≡◌, length}
use Rattle.tocmark_judge.specs.Letters.{letters}
use Rattle.tocmark_judge.proofs.letters.next_letter.Given as goal

abbrev pub invariant-loop-byte : goal.invariant-loop-byte
invariant-loop-byte l = letters l.left ≡ letters l.bytes

abbrev pub decreases-loop-byte : goal.decreases-loop-byte
decreases-loop-byte l = length l.left
