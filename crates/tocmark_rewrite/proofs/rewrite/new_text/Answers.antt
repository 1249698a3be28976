use Rattle.std.proofs.Common.{◌≡◌, ◌∙◌, ap, sym, true≢false, List, ℕ}
use Rattle.tocmark_event.specs.Merged.{merged}
use Rattle.tocmark_compare.specs.Given.{given_events}
use Rattle.tocmark_compare.proofs.Apart.{apart_differ}
use Rattle.tocmark_rewrite.proofs.Causes.{if-err, caused}
use Rattle.tocmark_rewrite.proofs.rewrite.new_text.Goals as goal
use Rattle.tocmark_rewrite.proofs.rewrite.new_text.Goals.{else-not-differ-via-then-not-differ+in_ok-are_same+else-branch, else-not-differ-via-else-not-differ}

pub returns-in-Some-clause-unchanged : goal.returns-in-Some-clause-unchanged
returns-in-Some-clause-unchanged g c = λ same.
    let equal : merged (given_events c.args.work.now.found.now) ≡ merged (given_events c.args.events.now) = ap merged c.requires.found ∙ sym same in
    absurd (elim c.else-not-differ.branch [ else-not-differ-via-then-not-differ+in_ok-are_same+else-branch w ↦ true≢false (sym (w.in_ok-are_same.ensures.1 equal) ∙ w.if-branch.false) | else-not-differ-via-else-not-differ w ↦ apart_differ (given_events c.args.work.now.found.now) (given_events c.args.events.now) (sym c.differ.ensures ∙ w.if-not-differ.false) equal ])

pub returns-clause-unchanged : goal.returns-clause-unchanged
returns-clause-unchanged g c = λ same.
    let equal : merged (given_events c.args.work.now.found.now) ≡ merged (given_events c.args.events.now) = ap merged c.requires.found ∙ sym same in
    absurd (elim c.else-not-differ.branch [ else-not-differ-via-then-not-differ+in_ok-are_same+else-branch w ↦ true≢false (sym (w.in_ok-are_same.ensures.1 equal) ∙ w.if-branch.false) | else-not-differ-via-else-not-differ w ↦ apart_differ (given_events c.args.work.now.found.now) (given_events c.args.events.now) (sym c.differ.ensures ∙ w.if-not-differ.false) equal ])

pub returns-clause-refused : goal.returns-clause-refused
returns-clause-refused g c =
    if-err c.joined_text.result
    (λ f vain. caused (λ (text : List ℕ). g.R.Reader.reading c.args.tools.now.reader.now text c.args.tools.now.flags) _ c.args.source.now (given_events c.args.events.now) f c.requires.defined
    (λ same.
    let equal : merged (given_events c.args.work.now.found.now) ≡ merged (given_events c.args.events.now) = ap merged c.requires.found ∙ sym same in
    elim c.else-not-differ.branch [ else-not-differ-via-then-not-differ+in_ok-are_same+else-branch w ↦ true≢false (sym (w.in_ok-are_same.ensures.1 equal) ∙ w.if-branch.false) | else-not-differ-via-else-not-differ w ↦ apart_differ (given_events c.args.work.now.found.now) (given_events c.args.events.now) (sym c.differ.ensures ∙ w.if-not-differ.false) equal ])
    vain)
    c.joined_text.ensures.refused
