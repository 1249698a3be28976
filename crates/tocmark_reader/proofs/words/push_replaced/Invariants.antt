use Rattle.std.proofs.Common.{◌≡◌, ◌++◌, take}
use Rattle.std.specs.List.{flat_map}
use Rattle.tocmark_read_page.specs.Definitions.{replaced}
use Rattle.tocmark_reader.proofs.words.push_replaced.Given as goal

abbrev pub invariant-loop-byte : goal.invariant-loop-byte
invariant-loop-byte l = l.out.items ≡ l.fn.out.items ++ flat_map replaced (take l.byte-index l.bytes)
