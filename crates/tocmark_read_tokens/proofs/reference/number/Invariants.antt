use Rattle.std.proofs.Common.{◌≡◌, take}
use Rattle.std.specs.List.{fold}
use Rattle.tocmark_read_tokens.specs.Reference.{number_step}
use Rattle.tocmark_read_tokens.proofs.reference.number.Given as goal

abbrev pub invariant-loop-byte : goal.invariant-loop-byte
invariant-loop-byte l = l.value ≡ fold (number_step l.base) 0 (take l.byte-index l.digits)
