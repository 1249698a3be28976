use Rattle.std.proofs.Common.{◌≡◌, map}
use Rattle.tocmark_event.specs.Text.{text_of}
use Rattle.tocmark_event.specs.View.{event_view}
use Rattle.tocmark_links.specs.Changed.{blank}
use Rattle.tocmark_links.proofs.Fronts.{front}
use Rattle.tocmark_links.proofs.changed.blank_all.Given as goal

abbrev pub invariant-loop-event : goal.invariant-loop-event
invariant-loop-event l = map (λ e. event_view text_of e.0) l.events ≡ front blank l.event-index (map (λ e. event_view text_of e.0) l.fn.events)
