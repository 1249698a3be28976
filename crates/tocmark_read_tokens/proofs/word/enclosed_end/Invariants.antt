use Rattle.std.proofs.Common.{◌≡◌, false, drop}
use Rattle.tocmark_read_tokens.specs.Word.{enclosed_end}
use Rattle.tocmark_read_tokens.proofs.word.enclosed_end.Given as goal

abbrev pub invariant-loop-byte : goal.invariant-loop-byte
invariant-loop-byte l =
    enclosed_end l.kind l.escaped l.place (drop l.byte-index l.byte-items) ≡ enclosed_end l.kind false l.from (drop l.from l.bytes)
