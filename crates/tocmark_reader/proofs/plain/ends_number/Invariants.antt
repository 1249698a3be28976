use Rattle.std.proofs.Common.{◌≡◌, drop}
use Rattle.tocmark_read_scan.specs.PlainParts.{ends_number}
use Rattle.tocmark_reader.proofs.plain.ends_number.Given as goal

abbrev pub invariant-loop-byte : goal.invariant-loop-byte
invariant-loop-byte l = ends_number (drop l.byte-index l.bytes) ≡ ends_number l.bytes
