-- Blocks that are named by their lines.
use Rattle.std.specs.Prelude.{ℕ, ◌≡◌, ◌<◌, ◌≤◌, List, [], ◌∷◌}
use Rattle.tocmark_format.specs.declared.answer.Left.{Left}
use Rattle.tocmark_format.specs.declared.named.Named.{Named}

-- each block begins after a line and after the block before it, and none ends before it begins
abbrev pub AreInOrder : ℕ → List Left → Type 0
AreInOrder line [] = Unit
AreInOrder line (block ∷ blocks) = (line < block.lines.0) × (block.lines.0 ≤ block.lines.1) × AreInOrder block.lines.1 blocks

-- the last line of blocks, or a line above them
abbrev pub last_line : ℕ → List Left → ℕ
last_line line [] = line
last_line line (block ∷ blocks) = last_line block.lines.1 blocks

-- blocks are named in order, and their last line is known
abbrev pub IsNamed : Named → Type 0
IsNamed named = AreInOrder 0 named.all.items × (named.last ≡ last_line 0 named.all.items)
