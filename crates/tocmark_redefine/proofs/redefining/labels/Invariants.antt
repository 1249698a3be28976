use Rattle.std.proofs.Common.{◌≡◌, ◌++◌, drop, map}
use Rattle.tocmark_reader.specs.Definitions.{said_view}
use Rattle.tocmark_redefine.proofs.redefining.labels.Given as goal

abbrev pub invariant-loop-definition : goal.invariant-loop-definition
invariant-loop-definition l =
    map (λ d. d.now) l.all.items ++ map (λ d. (said_view d).label) (drop l.definition-index l.definitions)
    ≡ map (λ d. (said_view d).label) l.definitions
