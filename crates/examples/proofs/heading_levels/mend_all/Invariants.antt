use Rattle.std.proofs.Common.{◌≡◌, [], map}
use Rattle.tocmark_event.specs.Text.{text_of}
use Rattle.tocmark_event.specs.View.{event_view}
use Rattle.examples.specs.Levels.{levels_behind}
use Rattle.examples.proofs.MendedFronts.{before_at, front}
use Rattle.examples.proofs.heading_levels.mend_all.Given as goal

abbrev pub invariant-loop-event : goal.invariant-loop-event
invariant-loop-event l =
    (map (λ e. event_view text_of e.0) l.events ≡ front [] l.event-index (map (λ e. event_view text_of e.0) l.fn.events))
    × (l.levels.all ≡ levels_behind (before_at [] l.event-index (map (λ e. event_view text_of e.0) l.fn.events)))
