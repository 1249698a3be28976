use Rattle.std.proofs.Common.{add-one, arith}
use Rattle.tocmark_links.proofs.Numbers.{reached-more}
use Rattle.tocmark_links.proofs.anchors.number.Goals as goal

pub loop-anchor-preserved : goal.loop-anchor-preserved
loop-anchor-preserved c =
    rw add-one (reached-more c.args.slugs c.args.anchors.now c.loop-anchor.anchors c.loop-anchor.anchor-index _ c.give.new.anchor c.loop-anchor.taken c.give.new.taken (omega arith) c.in_ok-give.ensures.given c.in_ok-give.ensures.kept c.loop-anchor.invariant)
