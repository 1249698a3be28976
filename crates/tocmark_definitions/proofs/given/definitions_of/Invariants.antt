use Rattle.std.proofs.Common.{◌≡◌, ◌++◌, drop, map}
use Rattle.serde_json.specs.View.{view}
use Rattle.tocmark_definitions.specs.Redefining.{said_by, saying_of}
use Rattle.tocmark_definitions.proofs.given.definitions_of.Given as goal

abbrev pub invariant-loop-value : goal.invariant-loop-value
invariant-loop-value l =
    map (saying_of l.more) l.all.items ++ map said_by (map view (drop l.value-index l.values))
    ≡ map said_by (map view l.values)
