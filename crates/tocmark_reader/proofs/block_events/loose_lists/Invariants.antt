use Rattle.std.proofs.Common.{◌≡◌, take}
use Rattle.tocmark_reader.specs.Pages.{loose_lists}
use Rattle.tocmark_reader.proofs.block_events.loose_lists.Given as goal

abbrev pub invariant-loop-block : goal.invariant-loop-block
invariant-loop-block l = l.loose.items ≡ loose_lists (take l.block-index l.blocks)
