use Rattle.std.proofs.Common.{◌≤◌, ap, drop, length, map, rules}
use Rattle.std.proofs.lemmas.List.{drop_all}
use Rattle.tocmark_event.specs.Text.{text_of}
use Rattle.tocmark_event.specs.View.{event_view}
use Rattle.tocmark_documents.specs.Document.{shared}
use Rattle.tocmark_documents.proofs.Stretches.{ends_there}
use Rattle.tocmark_documents.proofs.document.shared.Goals as goal

pub returns-then-place-given : goal.returns-then-place-given
returns-then-place-given c =
    let place = c.loop-place.place in
    let found = c.args.found.now in
    let given = c.args.given.now in
    let passed : length given ≤ place = search rules in
    ends_there place (shared (map (event_view text_of) found) (map (event_view text_of) given)) (map (event_view text_of) (drop place found)) (map (event_view text_of) (drop place given))
    (ap (map (event_view text_of)) (drop_all place given passed))
    c.loop-place.invariant
