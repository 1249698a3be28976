use Rattle.std.proofs.Common.{map, drop}
use Rattle.tocmark_event.specs.View.{attribute_view}
use Rattle.tocmark_json.specs.Json.{attribute_json}
use Rattle.tocmark_json.proofs.Adding.{Goes}
use Rattle.tocmark_json.proofs.printing.print_attributes.Given as goal

abbrev pub invariant-loop-attribute : goal.invariant-loop-attribute
invariant-loop-attribute g l = Goes (map attribute_json (map (attribute_view g.T.Words.bytes) l.attributes)) (map attribute_json (map (attribute_view g.T.Words.bytes) (drop l.attribute-index l.attributes))) l.later l.initial.out.items l.out.items
