use Rattle.std.proofs.Common.{◌≡◌, false, drop}
use Rattle.tocmark_read_tokens.specs.Word.{bare}
use Rattle.tocmark_read_tokens.proofs.word.bare.Given as goal

abbrev pub invariant-loop-byte : goal.invariant-loop-byte
invariant-loop-byte l =
    bare l.depth l.escaped l.place (drop l.byte-index l.byte-items) ≡ bare 0 false l.from (drop l.from l.bytes)
