use Rattle.std.proofs.Common.{ap, map}
use Rattle.std.specs.HashMap.{get_by_text}
use Rattle.std.specs.Option.{option_map}
use Rattle.tocmark_write_renderer.specs.WriterOf.{reference_view}
use Rattle.tocmark_write_labels.specs.Defined.{leads_alike, undefined}
use Rattle.tocmark_write_labels.specs.Definitions.{distinct}
use Rattle.tocmark_write_labels.specs.DefinitionsOf.{key_view}
use Rattle.tocmark_write_labels.specs.Matched.{label_key}
use Rattle.tocmark_write_labels.proofs.DefinedLabels.{left-more}
use Rattle.tocmark_write_labels.proofs.defined.undefined_keys.Goals as goal

pub loop-reference-preserved : goal.loop-reference-preserved
loop-reference-preserved c =
    let defined = map reference_view c.args.defined.now in
    let k = c.key_of-key.result in
    left-more defined c.args.references.now c.loop-reference.reference-index c.reference-item.result k c.loop-reference.keys.keys c.insert_undefined.new.keys.keys
    (leads_alike (option_map key_view (get_by_text c.in_ok-firsts.firsts (label_key k.label.now))) (key_view k)) (distinct (undefined defined (map reference_view c.args.references.now)))
    c.loop-reference-test.true c.reference-item.is c.key_of-key.ensures (ap (λ o. leads_alike o (key_view k)) (c.in_ok-firsts.ensures (label_key k.label.now))) c.in_ok-insert_undefined.ensures c.loop-reference.invariant
