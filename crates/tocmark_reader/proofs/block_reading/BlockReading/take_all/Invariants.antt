use Rattle.std.proofs.Common.{◌≡◌, length}
use Rattle.tocmark_reader.specs.Left.{reading_left}
use Rattle.tocmark_reader.proofs.block_reading.BlockReading.take_all.Given as goal

abbrev pub invariant-loop-self : goal.invariant-loop-self
invariant-loop-self l = reading_left l.self ≡ reading_left l.fn.self

abbrev pub decreases-loop-self : goal.decreases-loop-self
decreases-loop-self l = length l.self.blocks.items
