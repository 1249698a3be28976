-- The order of the blocks of a text.
use Rattle.std.specs.Prelude.{ℕ, ◌+◌, ◌*◌, ◌^◌, ◌<◌, ◌≤◌, List, [], ◌∷◌, length}
use Rattle.std.specs.List.{AllByRecursion}
use Rattle.tocmark_read_scan.specs.declared.syntax.TheConstants.{CORE}
use Rattle.tocmark_read_page.specs.declared.page.Block.{Block}
use Rattle.tocmark_read_blocks.specs.Blocks.{blocks_in}

-- a later block that isn't deeper begins where one ends, or after it
abbrev pub IsAfter : Block → Block → Type 0
IsAfter b c = c.depth ≤ b.depth → b.end ≤ c.start

-- all blocks after one are so: those in the same container come one after the other and don't overlap
abbrev pub AreInOrder : List Block → Type 0
AreInOrder [] = Unit
AreInOrder (b ∷ bs) = AllByRecursion (IsAfter b) bs × AreInOrder bs

-- so it is with the CommonMark blocks of each text
abbrev pub BlocksAreInOrder : Type 0
BlocksAreInOrder = (text : List ℕ) → 4 * length text + 1 < 2 ^ 64 → AreInOrder (blocks_in CORE text).blocks
