use Rattle.std.proofs.Common.{◌≡◌, ◌++◌, map}
use Rattle.std.specs.Vec.Iter.{into_iter_items}
use Rattle.tocmark_reader.specs.Definitions.{said_view}
use Rattle.tocmark_outline.specs.declared.defining.Listed.{Listed}
use Rattle.tocmark_outline.proofs.defining.with_uses.Given as goal

abbrev pub invariant-loop-definition : goal.invariant-loop-definition
invariant-loop-definition l =
    (map (λ (x : Listed). said_view x.definition) l.all.items ≡ map said_view l.yielded)
    × (l.yielded ++ into_iter_items l.definition-iterator ≡ l.fn.definitions.items)
