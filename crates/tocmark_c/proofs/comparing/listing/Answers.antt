use Rattle.std.proofs.Common.{◌∙◌, ◌+◌, ◌++◌, ap, List, arith}
use Rattle.json.specs.Print.{print}
use Rattle.json.specs.Token.{Token}
use Rattle.tocmark_c.proofs.Listed.{begun_more, begun_text}
use Rattle.tocmark_c.proofs.comparing.listing.Goals as goal

pub loop-difference-preserved : goal.loop-difference-preserved
loop-difference-preserved c = record {
  begun = begun_more c.loop-difference.difference-index (c.loop-difference.difference-index + 1) c.loop-difference.writer.tokens c.write_difference.new.writer.tokens (omega arith) c.loop-difference.invariant.begun c.in_ok-write_difference.ensures.object;
  before = c.write_difference.ensures.before ∙ c.loop-difference.invariant.before;
}

pub returns : goal.returns
returns c =
    begun_text c.loop-difference.difference-index c.args.all.now c.loop-difference.writer.tokens c.end_array.new.self.before c.into_inner.result.items (omega (arith, c.loop-difference-test.false, c.loop-difference.auto.difference-index-end)) c.loop-difference.invariant.begun (c.end_array.ensures.room.0 ∙ c.loop-difference.invariant.before)
    (c.into_inner.ensures.items ∙ ap (λ (ts : List Token). c.end_array.new.self.before ++ print ts) c.in_ok-end_array.ensures.ok)
