use Rattle.std.proofs.Common.{◌∙◌, ap, sym, true≢false}
use Rattle.tocmark_event.specs.Merged.{merged}
use Rattle.tocmark_compare.specs.Given.{given_events}
use Rattle.tocmark_compare.proofs.Apart.{apart_differ}
use Rattle.tocmark_rewrite.proofs.Readings.{events-between}
use Rattle.tocmark_rewrite.proofs.plan.Documents.have_same.Goals as goal

pub returns-then-differ : goal.returns-then-differ
returns-then-differ c =
    let left = ap given_events c.stretch-left.ensures ∙ sym (events-between c.args.self.now.found.now c.args.block.tree.first c.args.block.tree.past) in
    let right = ap given_events c.stretch-right.ensures ∙ sym (events-between c.args.self.now.given.now c.args.tree.first c.args.tree.past) in
    (λ t. absurd (true≢false (sym t)), λ same. absurd (apart_differ (given_events c.stretch-left.result.now) (given_events c.stretch-right.result.now) (sym c.differ.ensures ∙ c.if-differ.true) (ap merged left ∙ same ∙ sym (ap merged right))))

pub returns : goal.returns
returns c =
    let left = ap given_events c.stretch-left.ensures ∙ sym (events-between c.args.self.now.found.now c.args.block.tree.first c.args.block.tree.past) in
    let right = ap given_events c.stretch-right.ensures ∙ sym (events-between c.args.self.now.given.now c.args.tree.first c.args.tree.past) in
    (λ t. sym (ap merged left) ∙ c.in_ok-same.ensures.0 t ∙ ap merged right, λ same. c.in_ok-same.ensures.1 (ap merged left ∙ same ∙ sym (ap merged right)))
