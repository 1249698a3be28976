use Rattle.std.proofs.Common.{List, ◌++◌, take}
use Rattle.tocmark_event.specs.View.{EventView}
use Rattle.tocmark_compare.specs.Given.{given_events}
use Rattle.tocmark_judge.specs.Shape.{Outlines}
use Rattle.tocmark_judge.proofs.shape.Outline.add_all.Given as goal

abbrev pub invariant-loop-pair : goal.invariant-loop-pair
invariant-loop-pair l = (before : List EventView) → Outlines l.fn.self before → Outlines l.self (before ++ given_events (take l.pair-index l.events))
