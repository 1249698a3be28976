use Rattle.std.proofs.Common.{◌≡◌}
use Rattle.tocmark_read_scan.specs.Content.{content_view}
use Rattle.tocmark_read_inlines.specs.Write.{moved}
use Rattle.tocmark_read_inlines.proofs.Fronts.{front}
use Rattle.tocmark_read_inlines.proofs.write.move_all.Given as goal

abbrev pub invariant-loop-node : goal.invariant-loop-node
invariant-loop-node l = l.nodes ≡ front (moved (content_view l.content).places) l.node-index l.fn.nodes
