use Rattle.std.proofs.Common.{flat_map, map, ◌++◌, ◌∷◌, ◌∙◌, ap, length, refl, sym}
use Rattle.std.proofs.lemmas.List.{length-map}
use Rattle.tocmark_event.specs.View.{attribute_view}
use Rattle.tocmark_json.specs.Marshal.{attribute_bytes}
use Rattle.tocmark_json.specs.Marshal.{four}
use Rattle.tocmark_json.proofs.Marshalled.{more_come, all_come}
use Rattle.tocmark_json.proofs.marshalling.push_attributes.Goals as goal

pub loop-attribute-preserved : goal.loop-attribute-preserved
loop-attribute-preserved g c =
    let l = c.loop-attribute in
    more_come (λ x. attribute_bytes (attribute_view g.T.Words.bytes x)) (λ ys. flat_map attribute_bytes (map (attribute_view g.T.Words.bytes) ys)) (λ x ys. refl) refl c.args.attributes.now l.attribute-index c.push_length.new.out.items l.out.items c.push_attribute.new.out.items l.invariant c.attribute-item.result c.loop-attribute-test.true c.attribute-item.is c.in_ok-push_attribute.ensures

pub returns : goal.returns
returns g c =
    let l = c.loop-attribute in
    all_come (λ x. attribute_bytes (attribute_view g.T.Words.bytes x)) (λ ys. flat_map attribute_bytes (map (attribute_view g.T.Words.bytes) ys)) (λ x ys. refl) refl c.args.attributes.now l.attribute-index c.push_length.new.out.items l.out.items l.out.items l.invariant c.args.out.now.items (91 ∷ four (length ((map (attribute_view g.T.Words.bytes) c.args.attributes.now)))) c.loop-attribute-test.false (c.in_ok-push_length.ensures ∙ ap (λ n. c.args.out.now.items ++ 91 ∷ four n) (sym (length-map c.args.attributes.now (attribute_view g.T.Words.bytes))))
