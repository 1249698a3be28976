use Rattle.std.proofs.Common.{◌≡◌, map, take}
use Rattle.tocmark_json.specs.Node.{view}
use Rattle.serde_json.specs.Data.{string}
use Rattle.tocmark_json.proofs.reading.classes_from.Given as goal

abbrev pub invariant-loop-item : goal.invariant-loop-item
invariant-loop-item g l = map (λ x. string (g.U.Words.bytes x)) l.classes.items ≡ map view (take l.item-index l.item-items)
