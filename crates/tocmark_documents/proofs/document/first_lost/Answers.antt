use Rattle.std.proofs.Common.{◌≡◌, ◌≤◌, ◌∙◌, ℕ, ap, length, map, subst}
use Rattle.std.proofs.lemmas.List.Sums.{common_prefix_len-le}
use Rattle.tocmark_event.specs.Merged.{merged}
use Rattle.tocmark_event.specs.Text.{text_of}
use Rattle.tocmark_event.specs.View.{event_view}
use Rattle.tocmark_spelling.specs.SameEvents.{same_event}
use Rattle.tocmark_compare.specs.Given.{given_events}
use Rattle.tocmark_documents.specs.Document.{IsFirstBehind, shared}
use Rattle.tocmark_documents.proofs.document.first_lost.Goals as goal

pub returns : goal.returns
returns c =
    let found = merged (given_events c.args.found.now) in
    let given = merged (given_events c.args.given.now) in
    let read : map (event_view text_of) c.in_ok-read.read.items ≡ found = c.in_ok-read.ensures in
    let wanted : map (event_view text_of) c.in_ok-wanted.wanted.items ≡ given = c.in_ok-wanted.ensures in
    let is_shared : c.shared.result ≡ shared found given =
    c.shared.ensures
    ∙ ap (λ es. shared (map (event_view text_of) es) (map (event_view text_of) c.deref-2.result.now)) c.deref.ensures.value
    ∙ ap (λ es. shared (map (event_view text_of) c.in_ok-read.read.items) (map (event_view text_of) es)) c.deref-2.ensures.value
    ∙ (λ j. shared (read j) (wanted j)) in
    subst (λ (n : ℕ). n ≤ length given → IsFirstBehind n (given_events c.args.given.now) c.place_of.result) is_shared c.place_of.ensures
    (common_prefix_len-le same_event found given).1
