use Rattle.std.proofs.Common.{◌≡◌, map, take}
use Rattle.tocmark_json.specs.Node.{view}
use Rattle.tocmark_event.specs.View.{attribute_view}
use Rattle.tocmark_json.specs.Json.{attribute_json}
use Rattle.tocmark_json.proofs.reading.attributes_from.Given as goal

abbrev pub invariant-loop-item : goal.invariant-loop-item
invariant-loop-item g l = map (λ x. attribute_json ((attribute_view g.U.Words.bytes) x)) l.attributes.items ≡ map view (take l.item-index l.item-items)
