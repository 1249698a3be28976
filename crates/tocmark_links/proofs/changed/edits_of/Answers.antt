use Rattle.std.proofs.Common.{◌∙◌, ◌+◌, ap, sym, arith}
use Rattle.std.proofs.lemmas.List.{length_push}
use Rattle.std.proofs.lemmas.List.Elements.{All-push}
use Rattle.std.proofs.lemmas.List.Sorted.{All-permutation}
use Rattle.tocmark_links.specs.Places.{IsAsked}
use Rattle.tocmark_links.proofs.changed.edits_of.Goals as goal

pub loop-change-preserved : goal.loop-change-preserved
loop-change-preserved c = record {
  asked =
      rw c.in_ok-push.ensures.items (All-push (IsAsked c.args.page.now.links.items c.args.changes.now) c.loop-change.edits.items c.in_ok-edit_of.field-0 c.loop-change.invariant.asked (c.change-item.result, (c.loop-change.change-index, c.loop-change-test.true, sym c.change-item.is), c.in_ok-edit_of.ensures));
  count =
      rw c.in_ok-push.ensures.items (length_push c.loop-change.edits.items c.in_ok-edit_of.field-0 ∙ ap (λ n. n + 1) c.loop-change.invariant.count);
}

pub returns-clause-asked : goal.returns-clause-asked
returns-clause-asked c =
    All-permutation (IsAsked c.args.page.now.links.items c.args.changes.now) c.loop-change.edits.items c.sort_by_key.new.self.items c.in_ok-sort_by_key.ensures.permutation c.loop-change.invariant.asked
