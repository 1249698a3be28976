use Rattle.std.proofs.Common.{◌∙◌, ◌<◌, ◌≤◌, length, sym, arith}
use Rattle.std.proofs.lemmas.Bool.Decides.{nat_tests}
use Rattle.tocmark_differences.proofs.Fronts.{one-more, part-here, one-ends}
use Rattle.tocmark_differences.proofs.parting.parting.Goals as goal

pub returns-then-not-same_event : goal.returns-then-not-same_event
returns-then-not-same_event c =
    let in_old : c.loop-i.i < length c.args.old.now = grind (arith, nat_tests) in
    let in_new : c.loop-i.i < length c.args.new.now = grind (arith, nat_tests) in
    part-here c.args.old.now c.args.new.now c.loop-i.i c.loop-i.invariant.front c.index-old-i.result c.index-new-i.result in_old in_new (sym c.same_event.ensures ∙ c.if-not-same_event.true)

pub loop-i-preserved : goal.loop-i-preserved
loop-i-preserved c =
    let in_old : c.loop-i.i < length c.args.old.now = grind (arith, nat_tests) in
    let in_new : c.loop-i.i < length c.args.new.now = grind (arith, nat_tests) in
    record {
      least = c.loop-i.invariant.least;
      front = one-more c.args.old.now c.args.new.now c.loop-i.i c.loop-i.invariant.front c.index-old-i.result c.index-new-i.result in_old in_new (sym c.same_event.ensures ∙ c.if-not-same_event.false);
    }

pub returns-else-old-new : goal.returns-else-old-new
returns-else-old-new c =
    let past : c.min-count.result ≤ c.loop-i.i = grind (arith, nat_tests) in
    one-ends c.args.old.now c.args.new.now c.loop-i.i c.loop-i.invariant.front c.min-count.result c.loop-i.invariant.least past (λ e. grind (arith, nat_tests))
