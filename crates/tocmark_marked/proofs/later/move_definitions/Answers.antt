use Rattle.std.proofs.Common.{◌≡◌, ◌∙◌, List, add-one, ap, arith, map, slice_index_or, sym}
use mathlib.Core.List.{map-map}
use Rattle.tocmark_reader.specs.Definitions.{said_view}
use Rattle.tocmark_reader.specs.declared.definitions.DefinitionPlace.{DefinitionPlace}
use Rattle.tocmark_reader.specs.declared.definitions.ReferenceDefinition.{ReferenceDefinition}
use Rattle.tocmark_marked.specs.Marked.{later_definition, with_later_place}
use Rattle.tocmark_marked.proofs.Fronts.{all_changed, one_more}
use Rattle.tocmark_marked.proofs.later.move_definitions.Goals as goal

pub loop-definition-preserved : goal.loop-definition-preserved
loop-definition-preserved c =
    let old : ReferenceDefinition = slice_index_or c.loop-definition.definitions c.loop-definition.definition-index c.definition-item.result in
    let new : ReferenceDefinition = record { label = old.label; destination = old.destination; title = old.title; place = c.later_place-definition.result } in
    let same : new ≡ with_later_place old = ap (λ (p : DefinitionPlace). record { label = old.label; destination = old.destination; title = old.title; place = p }) c.later_place-definition.ensures in
    rw add-one (one_more with_later_place c.loop-definition.definitions c.args.definitions.now c.loop-definition.definition-index c.definition-item.result new c.loop-definition.invariant (omega arith) same)

pub returns : goal.returns
returns c =
    let old : List ReferenceDefinition = c.args.definitions.now in
    ap (map said_view) (c.loop-definition.invariant ∙ all_changed with_later_place c.loop-definition.definition-index old c.loop-definition-test.false)
    ∙ map-map said_view with_later_place old ∙ sym (map-map later_definition said_view old)
