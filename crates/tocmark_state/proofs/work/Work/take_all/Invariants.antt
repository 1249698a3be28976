use Rattle.std.proofs.Common.{◌≡◌, length, sum_by, Ok}
use Rattle.std.specs.List.{FoldsTo}
use Rattle.tocmark_state.specs.Walk.{walk}
use Rattle.tocmark_state.specs.WorkView.{standing_of, flags_of, incoming_pairs, rendering_with, Counts}
use Rattle.tocmark_state.proofs.work.Work.take_all.Given as goal

abbrev pub invariant-loop-event : goal.invariant-loop-event
invariant-loop-event g l =
    (goal.iterator-loop-event g).can_next l.event-iterator ×
    (goal.iterator-loop-event g).is_finite l.event-iterator ×
    (walk (rendering_with g.R.Reader.reading l.fn.tools) l.source (standing_of l.fn.self) (incoming_pairs g.E.Incoming.event l.yielded)).outcome ≡ Ok (standing_of l.self) ×
    FoldsTo g.W.Taker.takes l.fn.writer (walk (rendering_with g.R.Reader.reading l.fn.tools) l.source (standing_of l.fn.self) (incoming_pairs g.E.Incoming.event l.yielded)).texts l.writer ×
    Counts l.progress (length l.yielded) (sum_by length (walk (rendering_with g.R.Reader.reading l.fn.tools) l.source (standing_of l.fn.self) (incoming_pairs g.E.Incoming.event l.yielded)).texts) ×
    (flags_of l.self ≡ flags_of l.fn.self)
