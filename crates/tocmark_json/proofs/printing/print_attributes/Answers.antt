use Rattle.std.proofs.Common.{map, refl}
use Rattle.tocmark_event.specs.View.{attribute_view}
use Rattle.tocmark_json.specs.Json.{attribute_json}
use Rattle.tocmark_json.proofs.Adding.{begun, more_added, all_added}
use Rattle.tocmark_json.proofs.printing.print_attributes.Goals as goal

pub loop-attribute-init : goal.loop-attribute-init
loop-attribute-init g c = begun (map attribute_json (map (attribute_view g.T.Words.bytes) c.args.attributes.now)) c.push.new.out.items

pub loop-attribute-preserved : goal.loop-attribute-preserved
loop-attribute-preserved g c =
    let l = c.loop-attribute in
    more_added (λ x. attribute_json ((attribute_view g.T.Words.bytes) x)) (λ ys. map attribute_json (map (attribute_view g.T.Words.bytes) ys)) (λ x ys. refl) refl c.args.attributes.now l.attribute-index l.later c.push.new.out.items l.out.items c.push_comma.new.out.items c.print_attribute.new.out.items l.invariant c.attribute-item.result c.loop-attribute-test.true c.attribute-item.is c.in_ok-push_comma.ensures c.in_ok-print_attribute.ensures

pub returns : goal.returns
returns g c =
    let l = c.loop-attribute in
    all_added (λ x. attribute_json ((attribute_view g.T.Words.bytes) x)) (λ ys. map attribute_json (map (attribute_view g.T.Words.bytes) ys)) (λ x ys. refl) refl c.args.attributes.now l.attribute-index l.later c.push.new.out.items l.out.items c.push-2.new.out.items l.out.items l.invariant c.push-2.result c.args.out.now.items c.loop-attribute-test.false c.in_ok-push.ensures c.push-2.ensures
