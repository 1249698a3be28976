use Rattle.std.proofs.Common.{◌≡◌, ◌++◌, take}
use Rattle.std.specs.List.{flat_map}
use Rattle.tocmark_read_page.specs.Definitions.{replaced}
use Rattle.tocmark_read_page.proofs.definition.push_replaced.Given as goal

abbrev pub invariant-loop-byte : goal.invariant-loop-byte
invariant-loop-byte l = l.content.items ≡ l.fn.content.items ++ flat_map replaced (take l.byte-index l.bytes)
