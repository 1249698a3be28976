use Rattle.std.proofs.Common.{◌≡◌, map, take}
use Rattle.tocmark_c.specs.Calls.{flags_of}
use Rattle.tocmark_c.proofs.all_flags.Given as goal

abbrev pub invariant-loop-bits : goal.invariant-loop-bits
invariant-loop-bits l = l.list.items ≡ map flags_of (take l.bits-index l.all)
