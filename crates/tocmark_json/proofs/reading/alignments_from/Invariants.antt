use Rattle.std.proofs.Common.{◌≡◌, map, take}
use Rattle.tocmark_json.specs.Node.{view}
use Rattle.tocmark_json.specs.Json.{alignment_json}
use Rattle.tocmark_json.proofs.reading.alignments_from.Given as goal

abbrev pub invariant-loop-item : goal.invariant-loop-item
invariant-loop-item l = map alignment_json l.alignments.items ≡ map view (take l.item-index l.item-items)
