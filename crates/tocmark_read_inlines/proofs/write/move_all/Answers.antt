use Rattle.std.proofs.Common.{◌∙◌, arith, add-one}
use Rattle.tocmark_read_scan.specs.Content.{content_view}
use Rattle.tocmark_read_inlines.specs.Write.{moved}
use Rattle.tocmark_read_inlines.proofs.Fronts.{all_changed, one_more}
use Rattle.tocmark_read_inlines.proofs.write.move_all.Goals as goal

pub loop-node-preserved : goal.loop-node-preserved
loop-node-preserved c =
    rw add-one (one_more (moved (content_view c.args.content.now).places) c.loop-node.nodes c.args.nodes.now c.loop-node.node-index _ _ c.loop-node.invariant (omega arith) c.moved.ensures)

pub returns : goal.returns
returns c =
    c.loop-node.invariant
    ∙ all_changed (moved (content_view c.args.content.now).places) c.loop-node.node-index c.args.nodes.now c.loop-node-test.false
