use Rattle.std.proofs.Common.{◌≡◌, take}
use Rattle.tocmark_read_scan.specs.Content.{room_of}
use Rattle.tocmark_read_scan.proofs.content.room_of.Given as goal

abbrev pub invariant-loop-line : goal.invariant-loop-line
invariant-loop-line l = l.room ≡ room_of (take l.line-index l.lines)
