use Rattle.std.proofs.Common.{List, ◌++◌, take}
use Rattle.tocmark_event.specs.View.{EventView}
use Rattle.tocmark_compare.specs.Digest.{SaysFirst}
use Rattle.tocmark_compare.specs.Given.{given_events}
use Rattle.tocmark_compare.proofs.digest.Digest.add.Given as goal

abbrev pub invariant-loop-pair : goal.invariant-loop-pair
invariant-loop-pair l = (before : List EventView) → SaysFirst l.fn.self before → SaysFirst l.self (before ++ given_events (take l.pair-index l.events))
