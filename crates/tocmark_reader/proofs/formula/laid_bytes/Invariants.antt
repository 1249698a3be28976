use Rattle.std.proofs.Common.{◌≡◌, [], take}
use Rattle.std.specs.List.{fold}
use Rattle.tocmark_reader.specs.Formulas.{laid_byte}
use Rattle.tocmark_reader.proofs.formula.laid_bytes.Given as goal

abbrev pub invariant-loop-byte : goal.invariant-loop-byte
invariant-loop-byte l = (l.left, l.out.items) ≡ fold (laid_byte l.source) (l.lines, []) (take l.byte-index l.bytes)
