use Rattle.std.proofs.Common.{◌≡◌, false, map}
use Rattle.tocmark_event.specs.Text.{text_of}
use Rattle.tocmark_event.specs.View.{event_view}
use Rattle.tocmark_rewrite.proofs.Fronts.{open_at, partly}
use Rattle.tocmark_rewrite.proofs.edits.join_heading_lines.Given as goal

abbrev pub invariant-loop-event : goal.invariant-loop-event
invariant-loop-event l =
    (map (λ e. event_view text_of e.0) l.events ≡ partly false l.event-index (map (λ e. event_view text_of e.0) l.fn.events))
    × (l.is_open ≡ open_at false l.event-index (map (λ e. event_view text_of e.0) l.fn.events))
