use Rattle.std.proofs.Common.{◌≡◌, drop}
use Rattle.tocmark_read_scan.specs.Content.{pasted_view, put_bytes}
use Rattle.tocmark_read_scan.proofs.content.Pasted.put_each.Given as goal

abbrev pub invariant-loop-byte : goal.invariant-loop-byte
invariant-loop-byte l =
    put_bytes l.place (pasted_view l.self) (drop l.byte-index l.bytes) ≡ put_bytes l.start (pasted_view l.fn.self) l.bytes
