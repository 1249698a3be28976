use Rattle.std.proofs.Common.{◌-◌}
use Rattle.tocmark_event.specs.Text.{text_of}
use Rattle.tocmark_event.specs.View.{attribute_view}
use Rattle.tocmark_documents.specs.Packed.{packed_attribute}
use Rattle.tocmark_documents.proofs.PackedCuts.{HasRead}
use Rattle.tocmark_documents.proofs.packed.Packed.attributes.Given as goal

abbrev pub invariant-loop-attributes : goal.invariant-loop-attributes
invariant-loop-attributes l = HasRead (λ x. packed_attribute (attribute_view text_of x)) l.count l.attributes.items l.attributes.len l.fn.self.rest.now l.self.rest.now

abbrev pub decreases-loop-attributes : goal.decreases-loop-attributes
decreases-loop-attributes l = l.count - l.attributes.len
