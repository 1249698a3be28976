use Rattle.std.proofs.Common.{◌≡◌, ◌++◌, drop, false}
use Rattle.tocmark_json.specs.Destinations.{unquoted}
use Rattle.tocmark_json.proofs.destinations.unquoted.Given as goal

-- what is made so far, and what the bytes from here on come to, is what all come to
abbrev pub invariant-loop-byte : goal.invariant-loop-byte
invariant-loop-byte l = l.plain.items ++ unquoted l.front (drop l.byte-index l.bytes) ≡ unquoted false l.bytes
