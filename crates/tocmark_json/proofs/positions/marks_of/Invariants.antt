use Rattle.std.proofs.Common.{◌≡◌}
use Rattle.std.specs.List.{All}
use Rattle.tocmark_json.specs.Positions.{IsMark, position_of}
use Rattle.tocmark_json.proofs.positions.marks_of.Given as goal

-- the place is that of the byte at hand, and all marks are the text's
abbrev pub invariant-loop-offset : goal.invariant-loop-offset
invariant-loop-offset l = (l.position ≡ position_of l.bytes l.offset) × All (IsMark l.bytes) l.marks.items
