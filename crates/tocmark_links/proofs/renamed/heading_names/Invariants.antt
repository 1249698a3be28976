use Rattle.std.proofs.Common.{◌≡◌, ◌++◌, drop, map}
use Rattle.tocmark_links.specs.Renamed.{heading_names}
use Rattle.tocmark_links.proofs.renamed.heading_names.Given as goal

abbrev pub invariant-loop-anchor : goal.invariant-loop-anchor
invariant-loop-anchor l = map (λ n. n.now) l.names.items ++ heading_names (drop l.anchor-index l.anchors) ≡ heading_names l.anchors
