use Rattle.std.proofs.Common.{◌≡◌, ◌++◌, drop}
use Rattle.tocmark_read_scan.specs.Content.{pasted_view, ranges_of}
use Rattle.tocmark_read_scan.proofs.content.Pasted.put_whole.Given as goal

abbrev pub invariant-loop-byte : goal.invariant-loop-byte
invariant-loop-byte l =
    ((pasted_view l.self).bytes ≡ (pasted_view l.fn.self).bytes ++ l.bytes)
    × ((pasted_view l.self).places ++ ranges_of l.place (drop l._byte-index l.bytes) ≡ (pasted_view l.fn.self).places ++ ranges_of l.start l.bytes)
