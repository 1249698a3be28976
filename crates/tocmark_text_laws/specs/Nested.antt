-- How the blocks of a text nest.
use Rattle.std.specs.Prelude.{ℕ, ◌+◌, ◌*◌, ◌^◌, ◌<◌, ◌≤◌, nat_lt, List, [], ◌∷◌, length, take_while}
use Rattle.std.specs.List.{AllByRecursion}
use Rattle.tocmark_read_scan.specs.declared.syntax.TheConstants.{CORE}
use Rattle.tocmark_read_page.specs.declared.page.Block.{Block}
use Rattle.tocmark_read_blocks.specs.Blocks.{blocks_in}

-- the range of a block lies in that of another one
abbrev pub IsWithin : Block → Block → Type 0
IsWithin b c = (b.start ≤ c.start) × (c.end ≤ b.end)

-- the blocks that one contains: those after it that are deeper, up to one that isn't
abbrev pub inner : Block → List Block → List Block
inner b bs = take_while (λ (c : Block). nat_lt b.depth c.depth) bs

-- the ranges of all blocks lie in those of the blocks that contain them
abbrev pub Nest : List Block → Type 0
Nest [] = Unit
Nest (b ∷ bs) = AllByRecursion (IsWithin b) (inner b bs) × Nest bs

-- so it is with the CommonMark blocks of each text
abbrev pub BlocksNest : Type 0
BlocksNest = (text : List ℕ) → 4 * length text + 1 < 2 ^ 64 → Nest (blocks_in CORE text).blocks
