use Rattle.std.proofs.Common.{◌≡◌, map}
use Rattle.tocmark_event.specs.Text.{text_of}
use Rattle.tocmark_event.specs.View.{event_view}
use Rattle.tocmark_reader.specs.Definitions.{said_view}
use Rattle.tocmark_redefine.specs.Followed.{followed}
use Rattle.tocmark_rewrite.proofs.Fronts.{front}
use Rattle.tocmark_redefine.proofs.following.follow.Given as goal

abbrev pub invariant-loop-event : goal.invariant-loop-event
invariant-loop-event g l = map (λ e. event_view text_of e.0) l.events ≡ front (followed (map said_view l.olds) (map said_view l.news)) l.event-index (map (λ e. event_view text_of e.0) l.fn.events)
