use Rattle.std.proofs.Common.{◌≡◌, map, take}
use Rattle.tocmark_event.specs.View.{attribute_view}
use Rattle.tocmark_event.proofs.event.copied_attributes.Given as goal

abbrev pub invariant-loop-attribute : goal.invariant-loop-attribute
invariant-loop-attribute g l = map (attribute_view g.U.Words.bytes) l.copies.items ≡ map (attribute_view g.T.Words.bytes) (take l.attribute-index l.attributes)
