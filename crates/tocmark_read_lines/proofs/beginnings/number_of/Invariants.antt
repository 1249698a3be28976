use Rattle.std.proofs.Common.{◌≡◌, take}
use Rattle.tocmark_read_lines.specs.Marks.{number_of}
use Rattle.tocmark_read_lines.proofs.beginnings.number_of.Given as goal

abbrev pub invariant-loop-digit : goal.invariant-loop-digit
invariant-loop-digit l = l.number ≡ number_of (take l.digit-index l.digits)
