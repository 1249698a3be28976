use Rattle.tocmark_event.specs.Text.{text_of}
use Rattle.tocmark_json.specs.Json.{pair_view}
use Rattle.tocmark_documents.proofs.PackedPairs.{pairs_begun, pairs_more, pair_smaller}
use Rattle.tocmark_documents.proofs.packed.pairs_from_packed.Goals as goal

pub loop-packed-init : goal.loop-packed-init
loop-packed-init c =
    pairs_begun c.new-pairs.result.items c.new-pairs.result.len c.args.bytes.now c.new-pairs.ensures.items c.new-pairs.ensures.len

pub loop-packed-preserved : goal.loop-packed-preserved
loop-packed-preserved c =
    let l = c.loop-packed in
    pairs_more l.pairs.items l.pairs.len c.args.bytes.now l.packed.rest.now l.invariant c.in-Ok.pair c.pair.new.self.rest.now c.in-Ok.ensures.read c.push.new.self.items c.in_ok-push-in-Ok.ensures.items c.push.new.self.len c.in_ok-push-in-Ok.ensures.len

pub loop-packed-smaller : goal.loop-packed-smaller
loop-packed-smaller c = pair_smaller (pair_view text_of c.in-Ok.pair) c.loop-packed.packed.rest.now c.pair.new.self.rest.now c.in-Ok.ensures.read
