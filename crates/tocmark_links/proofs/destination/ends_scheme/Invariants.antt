use Rattle.std.proofs.Common.{◌≡◌, drop}
use Rattle.tocmark_links.specs.Destinations.{ends_scheme}
use Rattle.tocmark_links.proofs.destination.ends_scheme.Given as goal

abbrev pub invariant-loop-byte : goal.invariant-loop-byte
invariant-loop-byte l = ends_scheme (drop l.byte-index l.bytes) ≡ ends_scheme l.bytes
