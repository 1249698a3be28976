use Rattle.std.proofs.Common.{◌≡◌, ◌+◌, ◌++◌, List, drop, map, subst, sym}
use Rattle.std.specs.List.{All}
use Rattle.std.proofs.lemmas.List.Elements.{All-push}
use Rattle.tocmark_read_page.specs.Definitions.{definition_view}
use Rattle.tocmark_reader.specs.Definitions.{said_from, said_view, IsWellPlaced}
use Rattle.tocmark_reader.specs.declared.definitions.ReferenceDefinition.{ReferenceDefinition}
use Rattle.tocmark_reader.proofs.Saying.{said-more}
use Rattle.tocmark_reader.proofs.definitions.said_all.Goals as goal

pub loop-one-preserved : goal.loop-one-preserved
loop-one-preserved c =
    let i = c.loop-one.invariant in
    let text = c.args.text.now in
    let said = said_from c.args.names text c.args.places.now in (
      subst (λ (xs : List ReferenceDefinition). map said_view xs ++ said c.saturating_add-at.result (map definition_view (drop (c.loop-one.one-index + 1) c.args.found.now)) ≡ said 0 (map definition_view c.args.found.now)) (sym c.in_ok-push.ensures.items)
          (said-more c.args.names text c.args.places.now c.loop-one.at c.saturating_add-at.result c.loop-one.one-index c.loop-one.all.items c.in_ok-said_at.field-0 c.args.found.now c.one-item.result c.place_or_front-place.result _ c.loop-one-test.true c.one-item.is c.saturating_add-at.ensures c.place_or_front-place.ensures c.in_ok-said_at.ensures.exact i.0),
      subst (All (IsWellPlaced text)) (sym c.in_ok-push.ensures.items)
          (All-push (IsWellPlaced text) c.loop-one.all.items c.in_ok-said_at.field-0 i.1 c.in_ok-said_at.ensures.ranges),
    )
