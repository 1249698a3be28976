use Rattle.tocmark_event.specs.View.{attribute_view}
use Rattle.tocmark_event.proofs.Copying.{copied-more, copied-all}
use Rattle.tocmark_event.proofs.event.copied_attributes.Goals as goal

pub loop-attribute-preserved : goal.loop-attribute-preserved
loop-attribute-preserved g c =
    copied-more (attribute_view g.U.Words.bytes) (attribute_view g.T.Words.bytes) c.loop-attribute.copies.items c.args.attributes.now c.loop-attribute.attribute-index c.loop-attribute.invariant c.push.new.self.items c.in_ok-copied_attribute.field-0 c.attribute-item.result c.loop-attribute-test.true c.attribute-item.is c.in_ok-push.ensures.items c.in_ok-copied_attribute.ensures

pub returns : goal.returns
returns g c =
    copied-all (attribute_view g.U.Words.bytes) (attribute_view g.T.Words.bytes) c.loop-attribute.copies.items c.args.attributes.now c.loop-attribute.attribute-index c.loop-attribute.invariant c.loop-attribute-test.false
