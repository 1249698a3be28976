use Rattle.std.proofs.Common.{◌<◌, length, arith}
use Rattle.tocmark_write_blocks.proofs.PlaceLemmas.{ends-more}
use Rattle.tocmark_write_blocks.proofs.block_ends.ends_between.Goals as goal

pub loop-left-preserved : goal.loop-left-preserved
loop-left-preserved c =
    let n = c.loop-left.left in
    let lt : n < length c.args.text.now = omega (arith, c.requires.within) in
    record {
      within = omega arith;
      ends = ends-more c.args.text.now c.args.lower.now n c.loop-left.ends c.ends_with-ends.result _ _ c.requires.lower lt c.loop-left.invariant.ends
          c.last_of.ensures c.last_of-in-loop-left.ensures c.ends_with-ends.ensures;
    }
