use Rattle.std.proofs.Common.{◌≡◌, length}
use Rattle.tocmark_read_scan.specs.PlainParts.{are_plain_parts}
use Rattle.tocmark_reader.specs.PlainTexts.{parts_from}
use Rattle.tocmark_reader.proofs.plain.has_plain_parts.Given as goal

abbrev pub invariant-loop-byte : goal.invariant-loop-byte
invariant-loop-byte l = are_plain_parts l.before (parts_from 0 l.left) ≡ are_plain_parts 10 (parts_from 0 l.text)

abbrev pub decreases-loop-byte : goal.decreases-loop-byte
decreases-loop-byte l = length l.left
