use Rattle.std.proofs.Common.{◌∙◌, map, arith}
use Rattle.tocmark_links.proofs.Parts.{common_less, common_more, next-at}
use Rattle.tocmark_links.proofs.paths.common.Goals as goal

pub returns-then-not-is_next : goal.returns-then-not-is_next
returns-then-not-is_next c =
    let next = next-at _ c.rest.result.now c.args.other.now c.loop-part.count c.loop-part.part-index c.is_next.result c.is_next.ensures c.rest.ensures c.loop-part.invariant.0 in
    c.loop-part.invariant.0
    ∙ common_less c.args.one.now (map (λ p. p.now) c.args.other.now) c.loop-part.part-index _ _ c.loop-part-test.true c.loop-part.invariant.1 (next ∙ c.if-not-is_next.true)

pub loop-part-preserved : goal.loop-part-preserved
loop-part-preserved c =
    let next = next-at _ c.rest.result.now c.args.other.now c.loop-part.count c.loop-part.part-index c.is_next.result c.is_next.ensures c.rest.ensures c.loop-part.invariant.0 in (
      grind arith,
      common_more c.args.one.now (map (λ p. p.now) c.args.other.now) c.loop-part.part-index _ _ c.loop-part-test.true c.loop-part.invariant.1 (next ∙ c.if-not-is_next.false),
    )
