use Rattle.std.proofs.Common.{◌≡◌, map, take}
use Rattle.tocmark_event.specs.Text.{text_of}
use Rattle.tocmark_event.specs.View.{event_view}
use Rattle.tocmark_compare.proofs.same.events_alone.Given as goal

abbrev pub invariant-loop-pair : goal.invariant-loop-pair
invariant-loop-pair g l = map (event_view text_of) l.all.items ≡ map (λ e. event_view text_of e.0) (take l.pair-index l.events)
