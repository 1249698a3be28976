use Rattle.std.proofs.Common.{◌∙◌, ◌++◌, ap, arith}
use Rattle.tocmark_event.specs.Text.{text_of}
use Rattle.tocmark_event.specs.View.{attribute_view}
use Rattle.tocmark_documents.specs.Packed.{packed_attribute, packed_list, packed_number}
use Rattle.tocmark_documents.specs.Unpacked.{own_attribute}
use Rattle.tocmark_documents.proofs.PackedCuts.{list_begun, list_lacks, list_more, list_none, list_read, list_viewed}
use Rattle.tocmark_documents.proofs.PackedRefusals.{returned}
use Rattle.tocmark_documents.proofs.PackedWholes.{attribute_cuts}
use Rattle.tocmark_documents.proofs.packed.Packed.attributes.Goals as goal

pub returns-in_err-count-clause-refused : goal.returns-in_err-count-clause-refused
returns-in_err-count-clause-refused c =
    let bytes = c.args.self.now.rest.now in
    returned c.from_residual.result c.in_err-count.field-0.0 c.from_residual.ensures.1 packed_number (packed_list own_attribute) bytes bytes (list_none own_attribute bytes) c.in_err-count.ensures.refused

pub loop-attributes-init : goal.loop-attributes-init
loop-attributes-init c =
    list_begun (λ x. packed_attribute (attribute_view text_of x)) c.in_ok-count.count c.new-attributes.result.items c.new-attributes.result.len c.args.self.now.rest.now c.number.new.self.rest.now c.in_ok-count.ensures.read c.new-attributes.ensures.items c.new-attributes.ensures.len

pub returns-in_err-attribute-clause-refused : goal.returns-in_err-attribute-clause-refused
returns-in_err-attribute-clause-refused c =
    let l = c.loop-attributes in
    let bytes = c.args.self.now.rest.now in
    returned c.from_residual-in_err-attribute.result c.in_err-attribute.field-0.0 c.from_residual-in_err-attribute.ensures.1 own_attribute (packed_list own_attribute) l.self.rest.now bytes (list_lacks (λ x. packed_attribute (attribute_view text_of x)) own_attribute (λ x a. attribute_cuts (attribute_view text_of x) a) c.in_ok-count.count l.attributes.items l.attributes.len bytes l.self.rest.now l.invariant (omega (arith, c.loop-attributes-test.true, c.len.ensures))) c.in_err-attribute.ensures.refused

pub loop-attributes-preserved : goal.loop-attributes-preserved
loop-attributes-preserved c =
    let l = c.loop-attributes in
    list_more (λ x. packed_attribute (attribute_view text_of x)) c.in_ok-count.count l.attributes.items l.attributes.len c.args.self.now.rest.now l.self.rest.now l.invariant (omega (arith, c.loop-attributes-test.true, c.len.ensures)) c.in_ok-attribute.field-0 c.attribute.new.self.rest.now c.in_ok-attribute.ensures.read c.push.new.self.items c.in_ok-push.ensures.items c.push.new.self.len c.in_ok-push.ensures.len

pub returns-clause-read : goal.returns-clause-read
returns-clause-read c =
    let l = c.loop-attributes in
    list_read (λ x. packed_attribute (attribute_view text_of x)) c.in_ok-count.count l.attributes.items l.attributes.len c.args.self.now.rest.now l.self.rest.now l.invariant (omega (arith, c.loop-attributes-test.false, c.len.ensures)) ∙ ap (λ z. z ++ c.loop-attributes.self.rest.now) (list_viewed packed_attribute (attribute_view text_of) c.loop-attributes.attributes.items)
