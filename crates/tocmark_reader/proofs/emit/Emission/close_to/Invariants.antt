use Rattle.std.proofs.Common.{◌≡◌, ◌++◌, take, map}
use Rattle.tocmark_reader.specs.Emitted.{closings, shown}
use Rattle.tocmark_reader.proofs.emit.Emission.close_to.Given as goal

abbrev pub invariant-loop-self : goal.invariant-loop-self
invariant-loop-self l = record {
  events : map shown l.self.events.items ++ closings l.depth l.self.stack.items ≡ map shown l.fn.self.events.items ++ closings l.depth l.fn.self.stack.items;
  stack : take l.depth l.self.stack.items ≡ take l.depth l.fn.self.stack.items;
}

abbrev pub decreases-loop-self : goal.decreases-loop-self
decreases-loop-self l = goal.left-loop-self l
