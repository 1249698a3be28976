use Rattle.std.proofs.Common.{◌≡◌, drop}
use Rattle.std.specs.List.{list_any}
use Rattle.tocmark_event.specs.Text.{text_of}
use Rattle.tocmark_event.specs.View.{event_view}
use Rattle.tocmark_spelling.specs.Kinds.{starts, is_emphasis}
use Rattle.tocmark_write_emphasis.proofs.boundary.finds_emphasis.Given as goal

abbrev pub invariant-loop-event : goal.invariant-loop-event
invariant-loop-event l = list_any (λ e. starts is_emphasis (event_view text_of e.0)) (drop l.event-index l.events) ≡ list_any (λ e. starts is_emphasis (event_view text_of e.0)) l.events
