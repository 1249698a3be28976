use Rattle.std.proofs.Common.{◌≡◌, ◌+◌, drop, map}
use Rattle.tocmark_event.specs.Text.{text_of}
use Rattle.tocmark_event.specs.View.{event_view}
use Rattle.tocmark_documents.specs.Document.{shared}
use Rattle.tocmark_documents.proofs.document.shared.Given as goal

-- what was passed, and what the lists share from here on, are what they share in all
abbrev pub invariant-loop-place : goal.invariant-loop-place
invariant-loop-place l =
    l.place + shared (map (event_view text_of) (drop l.place l.found)) (map (event_view text_of) (drop l.place l.given)) ≡ shared (map (event_view text_of) l.found) (map (event_view text_of) l.given)
