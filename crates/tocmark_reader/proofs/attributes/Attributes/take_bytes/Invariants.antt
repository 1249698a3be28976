use Rattle.std.proofs.Common.{◌≡◌, take}
use Rattle.std.specs.List.{fold}
use Rattle.tocmark_reader.specs.Attributes.{attributes_view, byte_taken}
use Rattle.tocmark_reader.proofs.attributes.Attributes.take_bytes.Given as goal

abbrev pub invariant-loop-byte : goal.invariant-loop-byte
invariant-loop-byte l = attributes_view l.self ≡ fold byte_taken (attributes_view l.fn.self) (take l.byte-index l.bytes)
