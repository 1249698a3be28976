use Rattle.std.proofs.Common.{◌≡◌, ◌-◌, drop}
use Rattle.tocmark_json.specs.Positions.{passed}
use Rattle.tocmark_json.proofs.positions.passed.Given as goal

-- the place is the one from which the walk goes on to where it ends
abbrev pub invariant-loop-at : goal.invariant-loop-at
invariant-loop-at l = passed l.place (drop l.at l.bytes) (l.to - l.at) ≡ passed l.fn.position (drop l.from l.bytes) (l.to - l.from)
