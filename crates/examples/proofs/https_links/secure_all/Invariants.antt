use Rattle.std.proofs.Common.{◌≡◌, map}
use Rattle.tocmark_event.specs.Text.{text_of}
use Rattle.tocmark_event.specs.View.{event_view}
use Rattle.examples.specs.Links.{secured}
use Rattle.tocmark_rewrite.proofs.Fronts.{front}
use Rattle.examples.proofs.https_links.secure_all.Given as goal

abbrev pub invariant-loop-event : goal.invariant-loop-event
invariant-loop-event l = map (λ e. event_view text_of e.0) l.events ≡ front secured l.event-index (map (λ e. event_view text_of e.0) l.fn.events)
