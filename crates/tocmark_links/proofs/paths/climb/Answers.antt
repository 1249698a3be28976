use Rattle.std.proofs.Common.{refl}
use Rattle.tocmark_links.proofs.Parts.{climb-more}
use Rattle.tocmark_links.proofs.paths.climb.Goals as goal

pub loop-part-preserved : goal.loop-part-preserved
loop-part-preserved c =
    climb-more c.loop-part.path.items c.push.new.self.items _ c.args.parts.now c.loop-part._part-index _ c.loop-part-test.true c.in_ok-push.ensures.items refl c.loop-part.invariant
