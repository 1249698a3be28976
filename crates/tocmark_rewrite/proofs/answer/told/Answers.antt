use Rattle.std.proofs.Common.{◌∙◌, ℕ, arith, subst, sym}
use Rattle.std.specs.List.{All}
use Rattle.std.proofs.lemmas.List.Elements.{All-push}
use Rattle.tocmark_rewrite.specs.Kept.{IsCopied, IsTold, WasKept, planned_span, span_of}
use Rattle.tocmark_rewrite.proofs.Copied.{was-kept}
use Rattle.tocmark_rewrite.proofs.Plans.{seen-more}
use Rattle.tocmark_rewrite.proofs.answer.told.Goals as goal

pub loop-plan-preserved : goal.loop-plan-preserved
loop-plan-preserved c =
    let made = c.in_ok-push.ensures.items in
    let trees = seen-more span_of planned_span c.loop-plan.trees.items c.push.new.self.items c.tree_of-tree.result c.args.plans.now c.loop-plan.plan-index _ made c.loop-plan.invariant.trees (omega (arith, c.loop-plan-test.true)) c.tree_of-tree.ensures.place in
    record {
      trees = trees;
      told = λ r given h.
          let honest = c.tree_of-tree.ensures.told r given (h c.loop-plan.plan-index _ (omega (arith, c.loop-plan-test.true))) in
          subst (All (IsTold r given c.args.parts.now)) (sym made)
          (All-push (IsTold r given c.args.parts.now) c.loop-plan.trees.items c.tree_of-tree.result (c.loop-plan.invariant.told r given h) honest);
      all = λ h.
          let was = c.loop-plan.invariant.all h in
          let planned = h c.loop-plan.plan-index _ (omega (arith, c.loop-plan-test.true)) in
          let copied = subst (λ (n : ℕ). IsCopied c.args.parts.now n planned.block.from planned.block.to) (sym was.1) planned.copied in
          let kept = c.tree_of-tree.ensures.all planned.block planned.kept copied in (
            subst (All WasKept) (sym made) (All-push WasKept c.loop-plan.trees.items c.tree_of-tree.result was.0 (was-kept c.loop-plan.next c.tree_of-tree.result.fate kept)),
            c.next_part-next.ensures c.loop-plan.next kept ∙ was.1,
          );
    }
