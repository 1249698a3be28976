use Rattle.std.proofs.Common.{◌≡◌}
use Rattle.tocmark_marked.specs.Marked.{with_later_place}
use Rattle.tocmark_marked.proofs.Fronts.{front}
use Rattle.tocmark_marked.proofs.later.move_definitions.Given as goal

abbrev pub invariant-loop-definition : goal.invariant-loop-definition
invariant-loop-definition l = l.definitions ≡ front with_later_place l.definition-index l.fn.definitions
