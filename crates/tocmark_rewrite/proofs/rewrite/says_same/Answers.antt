use Rattle.std.proofs.Common.{◌≡◌, ◌∙◌, ap, map, string_bytes, subst, sym, true≢false, List, String, Global}
use Rattle.tocmark_event.specs.Merged.{merged}
use Rattle.tocmark_event.specs.Reading.{reading_view}
use Rattle.tocmark_compare.specs.Given.{found_events, given_events}
use Rattle.tocmark_compare.proofs.Found.{found-given}
use Rattle.tocmark_rewrite.specs.Labels.{AreAmong}
use Rattle.tocmark_rewrite.proofs.rewrite.says_same.Goals as goal

pub returns-then-not-same : goal.returns-then-not-same
returns-then-not-same c =
    let read : merged (given_events c.deref.result.now) ≡ merged (found_events (reading_view c.args.reading.now)) = ap merged (ap given_events c.deref.ensures.value ∙ sym (found-given c.args.reading.now)) in
    (λ t. absurd (true≢false (sym t)), λ both. absurd (true≢false (sym (c.in_ok-same.ensures.1 (read ∙ both.0)) ∙ c.if-not-same.true)))

pub returns : goal.returns
returns c =
    let read : merged (given_events c.deref.result.now) ≡ merged (found_events (reading_view c.args.reading.now)) = ap merged (ap given_events c.deref.ensures.value ∙ sym (found-given c.args.reading.now)) in (
      λ t. (sym read ∙ c.in_ok-same.ensures.0 c.if-not-same.false, subst (λ (xs : List (String Global)). AreAmong (map string_bytes c.args.labels.now) (map string_bytes xs)) c.deref-2.ensures.value (c.in_ok-among.ensures.0 t)),
      λ both. c.in_ok-among.ensures.1 (subst (λ (xs : List (String Global)). AreAmong (map string_bytes c.args.labels.now) (map string_bytes xs)) (sym c.deref-2.ensures.value) both.1),
    )
