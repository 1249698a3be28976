use Rattle.std.proofs.Common.{◌≡◌, ◌≢◌, ◌∙◌, ◌+◌, ◌<◌, ℕ, ap, drop, length, rules, subst, sym}
use Rattle.std.proofs.lemmas.List.{length-map}
use Rattle.tocmark_event.specs.Text.{text_of}
use Rattle.tocmark_event.specs.View.{event_view}
use Rattle.tocmark_compare.specs.Given.{given_events}
use Rattle.tocmark_documents.specs.Document.{goes_on}
use Rattle.tocmark_documents.proofs.Stretches.{IsReached, from_place, goes_along, goes_over}
use Rattle.tocmark_documents.proofs.document.place_of.Goals.{then-not-goes_on, else-not-goes_on}
use Rattle.tocmark_documents.proofs.document.place_of.Goals as goal

pub loop-place-preserved : goal.loop-place-preserved
loop-place-preserved c =
    let given = c.args.given.now in
    let es = given_events given in
    let place = c.loop-place.place in
    let left = c.loop-place.left in
    let below : place < length es = subst (λ (n : ℕ). place < n) (sym (length-map given (λ e. event_view text_of e.0))) (search rules) in
    let some : left ≢ 0 = search rules in
    let is : c.goes_on.result ≡ goes_on (drop place es) = c.goes_on.ensures ∙ ap goes_on (from_place given place) in
    elim c.if-not-goes_on.branch [
      | then-not-goes_on w ↦ subst (λ (n : ℕ). IsReached c.args.stretch n es (place + 1)) (sym (w.left-is ∙ w.saturating_sub-left.ensures)) (goes_over c.args.stretch left es place below some (sym is ∙ w.if-not-goes_on.true) c.loop-place.invariant)
      | else-not-goes_on w ↦ subst (λ (n : ℕ). IsReached c.args.stretch n es (place + 1)) (sym w.left-is) (goes_along c.args.stretch left es place below some (sym is ∙ w.if-not-goes_on.false) c.loop-place.invariant)
    ]
