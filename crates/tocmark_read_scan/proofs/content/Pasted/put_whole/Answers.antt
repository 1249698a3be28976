use Rattle.std.proofs.Common.{◌++◌}
use Rattle.tocmark_read_scan.specs.Content.{ranges_of}
use Rattle.tocmark_read_scan.proofs.Whole.{ranges_more}
use Rattle.tocmark_read_scan.proofs.content.Pasted.put_whole.Goals as goal

-- the places so far, and those of the bytes that are left
pub loop-byte-preserved : goal.loop-byte-preserved
loop-byte-preserved c = (
  c.loop-byte.invariant.0,
  ranges_more c.loop-byte.self.places.items c.push.new.self.items c.loop-byte.place c.saturating_add-next.result c.loop-byte._byte-index c.args.bytes.now (c.args.self.now.places.items ++ ranges_of c.args.start c.args.bytes.now) c.loop-byte-test.true c.saturating_add-next.ensures c.in_ok-push.ensures.items c.loop-byte.invariant.1,
)
