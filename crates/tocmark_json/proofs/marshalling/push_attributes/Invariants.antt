use Rattle.std.proofs.Common.{flat_map, map, drop}
use Rattle.tocmark_event.specs.View.{attribute_view}
use Rattle.tocmark_json.specs.Marshal.{attribute_bytes}
use Rattle.tocmark_json.proofs.Marshalled.{Comes}
use Rattle.tocmark_json.proofs.marshalling.push_attributes.Given as goal

abbrev pub invariant-loop-attribute : goal.invariant-loop-attribute
invariant-loop-attribute g l = Comes l.initial.out.items (flat_map attribute_bytes (map (attribute_view g.T.Words.bytes) l.attributes)) l.out.items (flat_map attribute_bytes (map (attribute_view g.T.Words.bytes) (drop l.attribute-index l.attributes)))
