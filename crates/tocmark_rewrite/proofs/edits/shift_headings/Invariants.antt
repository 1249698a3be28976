use Rattle.std.proofs.Common.{◌≡◌, map}
use Rattle.tocmark_event.specs.Text.{text_of}
use Rattle.tocmark_event.specs.View.{event_view}
use Rattle.tocmark_rewrite.specs.Edits.{with_level}
use Rattle.tocmark_rewrite.proofs.Fronts.{front}
use Rattle.tocmark_rewrite.proofs.edits.shift_headings.Given as goal

abbrev pub invariant-loop-event : goal.invariant-loop-event
invariant-loop-event l = map (λ e. event_view text_of e.0) l.events ≡ front (with_level l.shift) l.event-index (map (λ e. event_view text_of e.0) l.fn.events)
