use Rattle.tocmark_links.proofs.Numbers.{Reached}
use Rattle.tocmark_links.proofs.anchors.number.Given as goal

abbrev pub invariant-loop-anchor : goal.invariant-loop-anchor
invariant-loop-anchor l = Reached l.slugs l.fn.anchors l.anchors l.anchor-index l.taken
