use Rattle.std.proofs.Common.{◌≡◌, drop}
use Rattle.tocmark_reader.specs.QuietLines.{are_quiet_from}
use Rattle.tocmark_reader.proofs.quiet.are_quiet_from.Given as goal

abbrev pub invariant-loop-next : goal.invariant-loop-next
invariant-loop-next l = are_quiet_from l.text l.last (drop l.next-index l.others) ≡ are_quiet_from l.text l.fn.line l.others
