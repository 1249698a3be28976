use Rattle.std.proofs.Common.{rules, ◌≡◌, ◌∙◌, ◌+◌, ◌<◌, ◌^◌, ap, ap₂, length, map, slice_get, slice_index_or, subst, sym, IsSome, List, ℕ, Some}
use Rattle.std.specs.List.{All}
use Rattle.std.proofs.lemmas.List.Elements.{All-push}
use Rattle.tocmark_event.specs.Merged.{merged}
use Rattle.tocmark_event.specs.View.{EventView}
use Rattle.tocmark_compare.specs.Given.{given_events}
use Rattle.tocmark_rewrite.specs.Kept.{HasEventsOf, IsFrom}
use Rattle.tocmark_rewrite.specs.Trees.{trees_of}
use Rattle.tocmark_rewrite.specs.declared.plan.Plan.{Plan}
use Rattle.tocmark_rewrite.specs.declared.trees.Block.{Block}
use Rattle.tocmark_rewrite.specs.declared.trees.Tree.{Tree}
use Rattle.tocmark_rewrite.proofs.Plans.{block-there, if-some, listed-more, some-is}
use Rattle.std.specs.Prelude.{slice_range}
use Rattle.tocmark_rewrite.proofs.plan.Documents.plans.Goals as goal

pub loop-at-preserved : goal.loop-at-preserved
loop-at-preserved c =
    let made = c.in_ok-push.ensures.items in
    let found : List EventView = given_events c.args.self.now.found.now in
    let given : List EventView = given_events c.args.self.now.given.now in
    let blocks : List Block = c.args.self.now.blocks.now in
    let ts : List Tree = c.in_ok-trees.trees.items in
    let tree : Tree = c.index.result.now in
    let inside : c.loop-at.at < length c.in_ok-trees.trees.items = search rules in
    let small : c.loop-at.at < 2 ^ 63 = search rules in
    record {
      trees = listed-more (λ (p : Plan). p.tree) c.loop-at.plans.items c.push.new.self.items c.in_ok-plan.plan ts c.loop-at.at tree made c.loop-at.invariant.trees inside (c.in_ok-plan.ensures.tree ∙ c.index.ensures);
      kept = subst (All (IsFrom found given blocks)) (sym made) (All-push (IsFrom found given blocks) c.loop-at.plans.items c.in_ok-plan.plan c.loop-at.invariant.kept c.in_ok-plan.ensures.kept);
      all = λ are alike ranges.
          let was = c.loop-at.invariant.all are alike ranges in
          let same : map (λ (b : Block). b.tree) blocks ≡ ts = are ∙ ap₂ trees_of (sym alike) (sym ranges) ∙ sym c.in_ok-trees.ensures in
          let there = block-there blocks c.loop-at.at tree (subst (λ (xs : List Tree). c.loop-at.at < length xs) (sym same) inside) in
          let is : there.0.tree ≡ tree = there.2 ∙ ap (λ (xs : List Tree). slice_index_or xs c.loop-at.at tree) same ∙ sym c.index.ensures in
          let next : slice_get blocks c.loop-at.next ≡ Some there.0 = ap (slice_get blocks) was.1 ∙ there.1 in
          let events : HasEventsOf found given tree there.0 = subst (λ (t : Tree). merged (slice_range found there.0.tree.first there.0.tree.past) ≡ merged (slice_range given t.first t.past)) is (ap (λ (es : List EventView). merged (slice_range es there.0.tree.first there.0.tree.past)) (sym alike)) in
          let kept = if-some (λ (b : Block). b.tree.begins ≡ tree.begins → HasEventsOf found given tree b → (c.in_ok-plan.plan.kept ≡ Some b) × (c.in_ok-plan.plan.stands_for ≡ Some c.loop-at.next)) (slice_get blocks c.loop-at.next) there.0 next c.in_ok-plan.ensures.all (ap (λ (t : Tree). t.begins) is) events in (
            subst (All (λ (p : Plan). IsSome p.kept)) (sym made) (All-push (λ (p : Plan). IsSome p.kept) c.loop-at.plans.items c.in_ok-plan.plan was.0 (some-is kept.0)),
            c.behind-next.ensures c.loop-at.next kept.1 (subst (λ (n : ℕ). n < 2 ^ 63) (sym was.1) small) ∙ ap (λ (n : ℕ). n + 1) was.1,
          );
    }
