use Rattle.std.proofs.Common.{inl, inr, map, subst, sym, String, ℕ}
use Rattle.std.proofs.lemmas.List.Elements.{All-push}
use Rattle.std.proofs.lemmas.List.Sorted.{All-permutation}
use Rattle.std.specs.Global.{Global}
use Rattle.std.specs.Prelude.{Contains, List}
use Rattle.tocmark_reader.specs.Definitions.{said_view}
use Rattle.tocmark_redefine.specs.Redefined.{IsAsked}
use Rattle.tocmark_redefine.proofs.redefining.all_patches.Goals as goal

pub loop-change-preserved : goal.loop-change-preserved
loop-change-preserved c =
    let change = c.change-item.result in
    rw c.in_ok-push.ensures.items (All-push (IsAsked (map said_view c.args.olds.now) c.args.changes.now) c.loop-change.patches.items c.in_ok-patch_of.field-0 c.loop-change.invariant
    (inl (change, subst (λ (cs : List (ℕ × String Global)). Contains cs change) c.deref-change-items.ensures.value (c.loop-change.change-index, c.loop-change-test.true, sym c.change-item.is), c.in_ok-patch_of.ensures)))

pub loop-title-preserved : goal.loop-title-preserved
loop-title-preserved c =
    let title = c.title-item.result in
    rw c.in_ok-push-2.ensures.items (All-push (IsAsked (map said_view c.args.olds.now) c.args.changes.now) c.loop-title.patches.items c.in_ok-patch_of-2.field-0 c.loop-title.invariant
    (inr (title, subst (λ (cs : List (ℕ × String Global)). Contains cs title) c.deref-title-items.ensures.value (c.loop-title.title-index, c.loop-title-test.true, sym c.title-item.is), c.in_ok-patch_of-2.ensures)))

pub returns : goal.returns
returns c =
    All-permutation (IsAsked (map said_view c.args.olds.now) c.args.changes.now) c.loop-title.patches.items c.sort_by_key.new.self.items c.in_ok-sort_by_key.ensures.permutation c.loop-title.invariant
