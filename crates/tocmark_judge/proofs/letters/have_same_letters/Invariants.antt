use Rattle.std.proofs.Common.{◌≡◌, ◌↔◌, length}
use Rattle.tocmark_judge.specs.Letters.{letters}
use Rattle.tocmark_judge.proofs.letters.have_same_letters.Given as goal

abbrev pub invariant-loop-letter : goal.invariant-loop-letter
invariant-loop-letter l = (letters l.first ≡ letters l.second) ↔ (letters l.one ≡ letters l.other)

abbrev pub decreases-loop-letter : goal.decreases-loop-letter
decreases-loop-letter l = length (letters l.first)
