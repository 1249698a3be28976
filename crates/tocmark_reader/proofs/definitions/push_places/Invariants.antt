use Rattle.std.proofs.Common.{◌≡◌, ◌++◌, drop}
use Rattle.tocmark_reader.specs.Definitions.{places_from}
use Rattle.tocmark_reader.proofs.definitions.push_places.Given as goal

abbrev pub invariant-loop-byte : goal.invariant-loop-byte
invariant-loop-byte l =
    l.places.items ++ places_from l.at (drop l.byte-index l.bytes) ≡ l.fn.places.items ++ places_from l.start l.bytes
