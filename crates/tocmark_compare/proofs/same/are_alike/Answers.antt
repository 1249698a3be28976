use Rattle.std.proofs.Common.{◌≡◌, ◌∙◌, ap, map}
use Rattle.tocmark_event.specs.Merged.{merged}
use Rattle.tocmark_event.specs.Text.{text_of}
use Rattle.tocmark_event.specs.View.{event_view}
use Rattle.tocmark_spelling.specs.SameEvents.{same_events}
use Rattle.tocmark_compare.proofs.SameIsEqual.{same-told}
use Rattle.tocmark_compare.specs.Given.{given_events}
use Rattle.tocmark_compare.proofs.same.are_alike.Goals as goal

pub returns : goal.returns
returns g c =
    let found : map (event_view text_of) c.in_ok-found.found.items ≡ merged (given_events c.args.found.now) = c.in_ok-found.ensures in
    let given : map (event_view text_of) c.in_ok-given.given.items ≡ merged (given_events c.args.given.now) = c.in_ok-given.ensures in
    let tested : c.same_events.result ≡ same_events (merged (given_events c.args.found.now)) (merged (given_events c.args.given.now)) =
    c.same_events.ensures
    ∙ ap (λ es. same_events (map (event_view text_of) es) (map (event_view text_of) c.deref-2.result.now)) c.deref.ensures.value
    ∙ ap (λ es. same_events (map (event_view text_of) c.in_ok-found.found.items) (map (event_view text_of) es)) c.deref-2.ensures.value
    ∙ (λ j. same_events (found j) (given j)) in
    same-told (merged (given_events c.args.found.now)) (merged (given_events c.args.given.now)) c.same_events.result tested
