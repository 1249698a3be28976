use Rattle.std.proofs.Common.{◌≡◌, ◌∙◌, IfOk, IfSome, IsNone, List, ap, subst}
use Rattle.tocmark_event.specs.Merged.{merged}
use Rattle.tocmark_event.specs.View.{EventView}
use Rattle.tocmark_documents.proofs.FoundAgain.{found_read, given_read}
use Rattle.tocmark_compare.specs.Given.{given_events}
use Rattle.tocmark_documents.specs.Document.{IsFirstLost, events_read}
use Rattle.tocmark_documents.proofs.document.lost.Goals as goal

pub returns-clause-same : goal.returns-clause-same
returns-clause-same c =
    subst (λ (ys : List EventView). IfOk c.difference.result (λ answer. IsNone answer → merged (events_read c.args.flags c.args.text.now) ≡ merged ys))
    (given_read c.args.given.now)
    (subst (λ (xs : List EventView). IfOk c.difference.result (λ answer. IsNone answer → merged xs ≡ merged (given_events c.args.given.now)))
    (ap given_events c.deref.ensures.value ∙ found_read c.in_ok-reading.reading c.args.flags c.args.text.now c.in_ok-reading.ensures.reading)
    c.difference.ensures.same)

pub returns-clause-other : goal.returns-clause-other
returns-clause-other c =
    subst (λ (ys : List EventView). IfOk c.difference.result (λ answer. IfSome answer (λ place. ¬ (merged (events_read c.args.flags c.args.text.now) ≡ merged ys))))
    (given_read c.args.given.now)
    (subst (λ (xs : List EventView). IfOk c.difference.result (λ answer. IfSome answer (λ place. ¬ (merged xs ≡ merged (given_events c.args.given.now)))))
    (ap given_events c.deref.ensures.value ∙ found_read c.in_ok-reading.reading c.args.flags c.args.text.now c.in_ok-reading.ensures.reading)
    c.difference.ensures.other)

pub returns-clause-place : goal.returns-clause-place
returns-clause-place c =
    subst (λ (ys : List EventView). IfOk c.difference.result (λ answer. IfSome answer (IsFirstLost (events_read c.args.flags c.args.text.now) ys)))
    (given_read c.args.given.now)
    (subst (λ (xs : List EventView). IfOk c.difference.result (λ answer. IfSome answer (IsFirstLost xs (given_events c.args.given.now))))
    (ap given_events c.deref.ensures.value ∙ found_read c.in_ok-reading.reading c.args.flags c.args.text.now c.in_ok-reading.ensures.reading)
    c.difference.ensures.place)
